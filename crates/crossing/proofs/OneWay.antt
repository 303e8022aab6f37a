-- the lines of one way before and after their end
use Rattle.std.proofs.Common.{◌≡◌, ◌⊎◌, inl, inr, ℕ, zero, suc, ◌<◌, List, length, Option, Some, None, ℤ, pos, neg_ℤ, ◌+ℤ◌, ◌*ℤ◌, ◌<ℤ◌, refl, sym, ap, subst, ◌∙◌, arith}
use Rattle.std.proofs.lemmas.Int.{ints}
use Rattle.wide_int.proofs.Ring.{zero_mul_ℤ}
use Rattle.wide_int.proofs.Order.{mul_cancel}
use Rattle.int_vectors.specs.Vectors.{IsZero, IsPositive, at}
use Rattle.int_vectors.proofs.Entries.{zero_from, at-zero}
use Rattle.lex_height.specs.Entries.{entries}
use Rattle.lex_height.specs.Values as lex
use Rattle.lex_height.specs.Order.{IsLess, IsSame}
use Rattle.lex_height.specs.Order as order
use Rattle.lex_height.proofs.Signs.{has_sign, past_end}
use Rattle.lex_height.proofs.Comparing.{less_less, less_same, same_less, same_same, same_back, less_not_same, less_not_back, same_turned, same_as}
use Rattle.crossing.specs.declared.line.WallLine.{WallLine}
use Rattle.crossing.specs.declared.leaders.Way.{Way}
use Rattle.crossing.specs.declared.leaders.Way.TheVariants.{Rising}
use Rattle.crossing.specs.Lines.{constant, value, IsFlat, IsZeroAt}
use Rattle.crossing.specs.Leading.{steep, start, Goes, IsLed, nth, first_of}
use Rattle.crossing.specs.Ends.{led_by, IsSunk}
use Rattle.crossing.specs.Ties.{IsNotNegative}
use Rattle.crossing.proofs.Lists.{positive_at, positive_from, either}
use Rattle.crossing.proofs.Values.{turn, value_at, value_is, zero_ratio, ratio_zero, positive_ratio, double_neg, level_start, level_value}
use Rattle.crossing.proofs.Found.{first_goes, none_before}

-- ---- the sign of a line at a time
module _ (y : WallLine) (t : List ℤ) (q : ℤ) where
  pub sign_of : (way : Way) → IsPositive (value y t q) ⊎ (IsZero (value y t q) ⊎ IsLess (start y) (steep way y) (turn way (at t)) q)
  sign_of way = elim (has_sign (length (value y t q)) (at (value y t q)) (past_end (value y t q))) [
    | inl h ↦ inl (positive_from (value y t q) h)
    | inr r ↦ inr (elim r [
      | inl z ↦ inl (zero_from (value y t q) z)
      | inr n ↦ inr (
        n.0,
        (let a = n.1 in let e = value_is way y t q n.0 in omega (arith, ints, a, e)),
        λ k lt. let a = n.2 k lt in let e = value_is way y t q k in omega (arith, ints, a, e),
      )
    ])
  ]

  pub negative_apart : (way : Way) → Goes way y → pos 0 <ℤ q → IsLess (start y) (steep way y) (turn way (at t)) q → ¬ (IsNotNegative t q y)
  negative_apart way g pq n (inl p) = less_not_back (start y) (steep way y) (turn way (at t)) q g pq n (positive_ratio way y t q p)
  negative_apart way g pq n (inr z) = less_not_same (start y) (steep way y) (turn way (at t)) q n (same_back (turn way (at t)) q (start y) (steep way y) (zero_ratio way y t q z))

-- ---- level lines
module _ (y : WallLine) (level : y.beta ≡ pos 0) (t : List ℤ) (q : ℤ) (pq : pos 0 <ℤ q) where
  level_product : (u : List ℤ) (p : ℤ) (k : ℕ) → at (value y u p) k ≡ p *ℤ start y k
  level_product u p k = value_at y u p k ∙ without y.beta p (start y k) (at u k) level
    where
      without : (b p a x : ℤ) → b ≡ pos 0 → p *ℤ a +ℤ b *ℤ x ≡ p *ℤ a
      without b p a x e = let f : b *ℤ x ≡ pos 0 = rw e (omega (arith, ints)) in omega (arith, ints, f)

  zero_start : IsZero (value y t q) → (k : ℕ) → start y k ≡ pos 0
  zero_start z k = cancel q (start y k) pq (sym (level_product t q k) ∙ at-zero (value y t q) k z)
    where
      cancel : (q a : ℤ) → pos 0 <ℤ q → q *ℤ a ≡ pos 0 → a ≡ pos 0
      cancel q a pq e = mul_cancel a (pos 0) q (λ z. omega (arith, ints, z, pq)) (turned a q ∙ e ∙ sym (zero_mul_ℤ q))
        where
          turned : (a q : ℤ) → a *ℤ q ≡ q *ℤ a
          turned a q = omega (arith, ints)

  pub level_flat : IsZero (value y t q) → IsFlat y
  level_flat z u p pp = zero_from (value y u p) (λ k. level_product u p k ∙ ap (λ a. p *ℤ a) (zero_start z k) ∙ zero p)
    where
      zero : (p : ℤ) → p *ℤ pos 0 ≡ pos 0
      zero p = omega (arith, ints)

  pub sunk_out : IsSunk y → ¬ (IsNotNegative t q y)
  sunk_out h (inl p) = h.1 (level_start y level t q pq p)
  sunk_out h (inr z) = h.2 (level_flat z)

  not_both : (w : ℕ → ℤ) → order.IsPositive w → ¬ (order.IsPositive (λ k. neg_ℤ (w k)))
  not_both w h k = elim (either_rank h.0 k.0) [
    | inl lt ↦ (let a = h.1 in let b = k.2 h.0 lt in omega (arith, ints, a, b))
    | inr r ↦ elim r [
      | inl e ↦ (let a = h.1 in let b = subst (λ n. pos 0 <ℤ neg_ℤ (w n)) (sym e) k.1 in omega (arith, ints, a, b))
      | inr gt ↦ (let a = k.1 in let b = h.2 k.0 gt in omega (arith, ints, a, b))
    ]
  ]
    where
      either_rank : (i j : ℕ) → (i < j) ⊎ ((i ≡ j) ⊎ (j < i))
      either_rank zero zero = inr (inl refl)
      either_rank zero (suc j) = inl (omega arith)
      either_rank (suc i) zero = inr (inr (omega arith))
      either_rank (suc i) (suc j) = elim (either_rank i j) [
        | inl lt ↦ inl (omega (arith, lt))
        | inr r ↦ elim r [ inl e ↦ inr (inl (ap suc e)) | inr gt ↦ inr (inr (omega (arith, gt))) ]
      ]

  pub level_in : ¬ (IsSunk y) → IsNotNegative t q y
  level_in n = elim (has_sign (length (value y t q)) (at (value y t q)) (past_end (value y t q))) [
    | inl h ↦ inl (positive_from (value y t q) h)
    | inr r ↦ elim r [
      | inl z ↦ inr (zero_from (value y t q) z)
      | inr m ↦ absurd (n (
        level,
        (λ p. not_both (at (value y t q)) (positive_at (value y t q) (level_value y level t q pq p)) m),
        λ f. none (at (value y t q)) (λ k. at-zero (value y t q) k (f t q pq)) m,
      ))
    ]
  ]
    where
      none : (w : ℕ → ℤ) → ((k : ℕ) → w k ≡ pos 0) → ¬ (order.IsPositive (λ k. neg_ℤ (w k)))
      none w z m = let a = m.1 in let b = z m.0 in omega (arith, ints, a, b)

-- ---- the end of one way
pub first_led : (a : ℕ) (b : Option ℕ) → first_of (led_by a b) ≡ Some a
first_led a None = refl
first_led a (Some b) = refl

module _ (way : Way) (lines : List WallLine) (u : lex.Value) (low : lex.IsLowest u) (a : ℕ) (b : Option ℕ) (z : IsZeroAt (nth lines a) u) (led : IsLed way lines (length lines) (led_by a b)) where
  abbrev U : ℕ → ℤ
  U = turn way (at (entries u.parts))

  abbrev x : WallLine
  x = nth lines a

  pub leader : (a < length lines) × Goes way x
  leader = first_goes way lines (led_by a b) a (first_led a b) led

  at_leader : IsSame U u.den (start x) (steep way x)
  at_leader = zero_ratio way x (entries u.parts) u.den z

  module _ (t : List ℤ) (q : ℤ) (pq : pos 0 <ℤ q) where
    abbrev T : ℕ → ℤ
    T = turn way (at t)

    pub within : ¬ (IsLess U u.den T q) → (k : ℕ) → k < length lines → Goes way (nth lines k) → IsNotNegative t q (nth lines k)
    within nl k lt g =
        let y = nth lines k in
        elim (sign_of y t q way) [
          | inl p ↦ inl p
          | inr r ↦ elim r [
            | inl e ↦ inr e
            | inr n ↦ absurd (nl (same_less U u.den (start x) (steep way x) T q low.0.2 leader.1 pq at_leader (elim (either (constant x) (steep way x) (constant y) (steep way y)) [
              | inl l ↦ less_less (start x) (steep way x) (start y) (steep way y) T q leader.1 g pq l n
              | inr s ↦ elim s [
                | inl e ↦ same_less (start x) (steep way x) (start y) (steep way y) T q leader.1 g pq e n
                | inr l ↦ absurd (none_before way lines (led_by a b) a (first_led a b) led k lt g l)
              ]
            ])))
          ]
        ]

    pub past : IsLess U u.den T q → ¬ (IsNotNegative t q x)
    past l = negative_apart x t q way leader.1 pq (same_less (start x) (steep way x) U u.den T q leader.1 low.0.2 pq (same_back U u.den (start x) (steep way x) at_leader) l)

    pub zero_there : ¬ (IsLess U u.den T q) → (k : ℕ) → k < length lines → Goes way (nth lines k) → IsZero (value (nth lines k) t q) → IsSame T q U u.den
    zero_there nl k lt g zy =
        let y = nth lines k in
        let ty = zero_ratio way y t q zy in
        elim (either (constant x) (steep way x) (constant y) (steep way y)) [
          | inl l ↦ absurd (nl (
              same_less U u.den (start x) (steep way x) T q low.0.2 leader.1 pq at_leader
              (less_same (start x) (steep way x) (start y) (steep way y) T q leader.1 g pq l (same_back T q (start y) (steep way y) ty))
              ))
          | inr s ↦ elim s [
            | inl e ↦ same_same T q (start y) (steep way y) U u.den pq g low.0.2 ty
                (same_same (start y) (steep way y) (start x) (steep way x) U u.den g leader.1 low.0.2 (same_back (start x) (steep way x) (start y) (steep way y) e) (same_back U u.den (start x) (steep way x) at_leader))
            | inr l ↦ absurd (none_before way lines (led_by a b) a (first_led a b) led k lt g l)
          ]
        ]

-- a line of this way is zero at one time, however it is written
pub zero_same : (way : Way) (y : WallLine) → Goes way y → (t : List ℤ) (q : ℤ) (u : List ℤ) (p : ℤ) → pos 0 <ℤ q → pos 0 <ℤ p → IsSame (turn way (at t)) q (turn way (at u)) p → IsZero (value y t q) → IsZero (value y u p)
zero_same way y g t q u p pq pp s z =
    ratio_zero way y u p (same_same (turn way (at u)) p (turn way (at t)) q (start y) (steep way y) pp pq g (same_back (turn way (at t)) q (turn way (at u)) p s) (zero_ratio way y t q z))

-- ---- the order of two times as it runs on a way
pub turned_same : (w : ℕ → ℤ) (p : ℤ) (u : ℕ → ℤ) (q : ℤ) → IsSame (turn Rising w) p (turn Rising u) q → IsSame w p u q
turned_same w p u q h =
    same_as (λ k. neg_ℤ (neg_ℤ (w k))) w (λ k. neg_ℤ (neg_ℤ (u k))) u p q (λ k. double_neg (w k)) (λ k. double_neg (u k)) (same_turned (turn Rising w) p (turn Rising u) q h)
