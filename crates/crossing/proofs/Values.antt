-- values and zeros of lines, entry by entry
use Rattle.std.proofs.Common.{◌≡◌, inl, inr, ℕ, ◌∙◌, List, ℤ, pos, neg_ℤ, ◌+ℤ◌, ◌-ℤ◌, ◌*ℤ◌, ◌<ℤ◌, sym, ap, arith}
use Rattle.std.proofs.lemmas.Int.{ints}
use Rattle.std.proofs.Math.IntN.{*ℤ_comm}
use Rattle.wide_int.proofs.Ring.{as_D, Ds, same_D, zero_mul_ℤ}
use Rattle.wide_int.proofs.Order.{lt_cancel, mul_cancel, mul_pos_ℤ}
use Rattle.int_vectors.specs.Vectors.{IsZero, IsPositive, at}
use Rattle.int_vectors.proofs.Entries.{zero_from, at-zero}
use Rattle.lex_height.specs.Order.{IsLess, IsSame}
use Rattle.lex_height.proofs.Comparing.{less_less, less_same, same_less, same_same, same_back, not_below_itself, less_turned, less_as}
use Rattle.crossing.specs.declared.line.WallLine.{WallLine}
use Rattle.crossing.specs.declared.leaders.Way.{Way}
use Rattle.crossing.specs.declared.leaders.Way.TheVariants.{Falling, Rising}
use Rattle.crossing.specs.Lines.{constant, value}
use Rattle.crossing.specs.Leading.{steep, start, Goes, IsBefore, IsEven}
use Rattle.crossing.proofs.Lists.{at-sum, positive_at, positive_from, either}

-- ---- lines of one way
-- a time as it runs on this way
abbrev pub turn : Way → (ℕ → ℤ) → ℕ → ℤ
turn Falling w = w
turn Rising w = λ k. neg_ℤ (w k)

falling_ring : (a b p q : ℤ) → q *ℤ a +ℤ b *ℤ p ≡ a *ℤ q -ℤ p *ℤ neg_ℤ b
falling_ring a b p q = rw (as_D a, as_D b, as_D p, as_D q) (simp Ds (same_D _ _ _ _ (omega arith)))

rising_ring : (a b p q : ℤ) → q *ℤ a +ℤ b *ℤ p ≡ a *ℤ q -ℤ neg_ℤ p *ℤ b
rising_ring a b p q = rw (as_D a, as_D b, as_D p, as_D q) (simp Ds (same_D _ _ _ _ (omega arith)))

pub value_at : (line : WallLine) (t : List ℤ) (q : ℤ) (k : ℕ) → at (value line t q) k ≡ q *ℤ start line k +ℤ line.beta *ℤ at t k
value_at line t q k = at-sum q line.beta (constant line) t k

pub value_is : (way : Way) (line : WallLine) (t : List ℤ) (q : ℤ) (k : ℕ) → at (value line t q) k ≡ start line k *ℤ q -ℤ turn way (at t) k *ℤ steep way line
value_is Falling line t q k = value_at line t q k ∙ falling_ring (start line k) line.beta (at t k) q
value_is Rising line t q k = value_at line t q k ∙ rising_ring (start line k) line.beta (at t k) q

module _ (way : Way) (line : WallLine) (t : List ℤ) (q : ℤ) where
  -- zero at t / q: the time is the start over the steepness
  pub zero_ratio : IsZero (value line t q) → IsSame (turn way (at t)) q (start line) (steep way line)
  zero_ratio z k = let e = at-zero (value line t q) k z in let v = value_is way line t q k in omega (arith, ints, e, v)

  pub ratio_zero : IsSame (turn way (at t)) q (start line) (steep way line) → IsZero (value line t q)
  ratio_zero h = zero_from (value line t q) (λ k. let e = h k in let v = value_is way line t q k in omega (arith, ints, e, v))

  -- positive at t / q: the time is less than the start over the steepness
  pub positive_ratio : IsPositive (value line t q) → IsLess (turn way (at t)) q (start line) (steep way line)
  positive_ratio h =
      let p = positive_at (value line t q) h in (
        p.0,
        (let a = p.1 in let v = value_is way line t q p.0 in omega (arith, ints, a, v)),
        λ k lt. let a = p.2 k lt in let v = value_is way line t q k in omega (arith, ints, a, v),
      )

  pub ratio_positive : IsLess (turn way (at t)) q (start line) (steep way line) → IsPositive (value line t q)
  ratio_positive p = positive_from (value line t q) (
    p.0,
    (let a = p.1 in let v = value_is way line t q p.0 in omega (arith, ints, a, v)),
    λ k lt. let a = p.2 k lt in let v = value_is way line t q k in omega (arith, ints, a, v),
  )

-- less than what isn't after z
pub less_level : (w : ℕ → ℤ) (q : ℤ) (x : List ℤ) (p : ℤ) (z : List ℤ) (r : ℤ) → pos 0 <ℤ q → pos 0 <ℤ p → pos 0 <ℤ r → IsLess w q (at x) p → ¬ (IsLess (at z) r (at x) p) → IsLess w q (at z) r
less_level w q x p z r pq pp pr h n = elim (either x p z r) [
  | inl l ↦ less_less w q (at x) p (at z) r pq pp pr h l
  | inr s ↦ elim s [
    | inl e ↦ less_same w q (at x) p (at z) r pq pp pr h e
    | inr l ↦ absurd (n l)
  ]
]

module _ (way : Way) (x y : WallLine) (gx : Goes way x) (gy : Goes way y) where
  -- a zero of y isn't before one of x
  pub zero_le : ¬ (IsBefore way y x) → (t : List ℤ) (q : ℤ) → pos 0 <ℤ q → IsZero (value x t q) → (u : List ℤ) (p : ℤ) → pos 0 <ℤ p → IsZero (value y u p) → ¬ (IsLess (turn way (at u)) p (turn way (at t)) q)
  zero_le n t q pq zx u p pp zy h =
      let a = zero_ratio way x t q zx in
      let b = zero_ratio way y u p zy in
      let c = less_same (turn way (at u)) p (turn way (at t)) q (start x) (steep way x) pp pq gx h a in
      n (same_less (start y) (steep way y) (turn way (at u)) p (start x) (steep way x) gy pp gx (same_back (turn way (at u)) p (start y) (steep way y) b) c)

  -- two zeros at one time
  pub apart : IsBefore way x y → (t : List ℤ) (q : ℤ) → pos 0 <ℤ q → IsZero (value x t q) → IsZero (value y t q) → ⊥
  apart h t q pq zx zy =
      let a = zero_ratio way x t q zx in
      let b = zero_ratio way y t q zy in
      let c = same_less (turn way (at t)) q (start x) (steep way x) (start y) (steep way y) pq gx gy a h in
      not_below_itself (turn way (at t)) q (less_same (turn way (at t)) q (start y) (steep way y) (turn way (at t)) q pq gy pq c (same_back (turn way (at t)) q (start y) (steep way y) b))

  pub even_zero : IsEven way x y → (t : List ℤ) (q : ℤ) → pos 0 <ℤ q → IsZero (value x t q) → IsZero (value y t q)
  even_zero e t q pq zx = ratio_zero way y t q (same_same (turn way (at t)) q (start x) (steep way x) (start y) (steep way y) pq gx gy (zero_ratio way x t q zx) e)

  -- before x's zero y is positive too
  pub positive_too : ¬ (IsBefore way y x) → (t : List ℤ) (q : ℤ) → pos 0 <ℤ q → IsPositive (value x t q) → IsPositive (value y t q)
  positive_too n t q pq h = ratio_positive way y t q (less_level (turn way (at t)) q (constant x) (steep way x) (constant y) (steep way y) pq gx gy (positive_ratio way x t q h) n)

-- ---- the order of times as it runs on this way
pub double_neg : (x : ℤ) → neg_ℤ (neg_ℤ x) ≡ x
double_neg x = omega (arith, ints)

pub turned_less : (w : ℕ → ℤ) (p : ℤ) (u : ℕ → ℤ) (q : ℤ) → IsLess (turn Rising w) p (turn Rising u) q → IsLess u q w p
turned_less w p u q h = less_as (λ k. neg_ℤ (neg_ℤ (u k))) u (λ k. neg_ℤ (neg_ℤ (w k))) w q p (λ k. double_neg (u k)) (λ k. double_neg (w k)) (less_turned (turn Rising w) p (turn Rising u) q h)

pub less_turn : (w : ℕ → ℤ) (p : ℤ) (u : ℕ → ℤ) (q : ℤ) → IsLess u q w p → IsLess (turn Rising w) p (turn Rising u) q
less_turn w p u q h = less_turned u q w p h

-- positive at t / q, zero at u / p
pub zero_later : (way : Way) (y : WallLine) → Goes way y → (t : List ℤ) (q : ℤ) → pos 0 <ℤ q → IsPositive (value y t q) → (u : List ℤ) (p : ℤ) → pos 0 <ℤ p → IsZero (value y u p) → IsLess (turn way (at t)) q (turn way (at u)) p
zero_later way y g t q pq h u p pp z =
    less_same (turn way (at t)) q (start y) (steep way y) (turn way (at u)) p pq g pp (positive_ratio way y t q h) (same_back (turn way (at u)) p (start y) (steep way y) (zero_ratio way y u p z))

-- ---- lines that are level
module _ (line : WallLine) (level : line.beta ≡ pos 0) (t : List ℤ) (q : ℤ) (pq : pos 0 <ℤ q) where
  level_at : (k : ℕ) → at (value line t q) k ≡ start line k *ℤ q
  level_at k = value_at line t q k ∙ without line.beta q (start line k) (at t k) level
    where
      without : (b q a p : ℤ) → b ≡ pos 0 → q *ℤ a +ℤ b *ℤ p ≡ a *ℤ q
      without b q a p e = let f : b *ℤ p ≡ pos 0 = rw e (omega (arith, ints)) in let c = *ℤ_comm q a in omega (arith, ints, f, c)

  pub level_start : IsPositive (value line t q) → IsPositive (constant line)
  level_start h =
      let p = positive_at (value line t q) h in
      positive_from (constant line) (
        p.0,
        lt_cancel (pos 0) (start line p.0) q pq (let a = p.1 in let e = level_at p.0 in let z = zero_mul_ℤ q in omega (arith, ints, a, e, z)),
        λ k lt. mul_cancel (start line k) (pos 0) q (λ e. omega (arith, ints, e, pq)) (sym (level_at k) ∙ p.2 k lt ∙ sym (zero_mul_ℤ q)),
      )

  pub level_value : IsPositive (constant line) → IsPositive (value line t q)
  level_value h =
      let p = positive_at (constant line) h in
      positive_from (value line t q) (
        p.0,
        (let a = mul_pos_ℤ (start line p.0) q p.1 pq in let e = level_at p.0 in omega (arith, ints, a, e)),
        λ k lt. level_at k ∙ ap (λ z. z *ℤ q) (p.2 k lt) ∙ zero_mul_ℤ q,
      )
