-- signs of sums of values, gaps turned round, and the least of a normal's values
use Rattle.std.proofs.Common.{◌≡◌, ◌⊎◌, ℕ, zero, suc, ◌<◌, List, [], ◌∷◌, length, arith, refl, ap, ◌∙◌, inl, inr, ◌<ℤ◌}
use Rattle.std.proofs.lemmas.Int.{ints}
use Rattle.std.proofs.Math.IntN.{ℤ, pos, ◌+ℤ◌, neg_ℤ}
use Rattle.int_vectors.specs.Vectors.{IsZero, IsPositive, at, sub, scale, entries_at, row_at}
use Rattle.int_vectors.proofs.Entries.{at-scale, at-add, zero_from, not_zero}
use Rattle.cayley.specs.Times.{Time}
use Rattle.cayley.specs.Problems.{Point}
use Rattle.cayley.specs.Normals.{Normal, mark, gap}
use Rattle.cayley.proofs.Order.Lexicographic.{positive-same, positive-scale, zero-scale, not_both, three}
use Rattle.cayley.proofs.Order.Lines.{NotNegative, positive_mix}
use Rattle.cayley.proofs.OneCell.CellLines.{base_of}
use Rattle.cayley.proofs.OneCell.Neighbours.{gap-potential, level_back}
use Rattle.cayley.proofs.Life.Targets.{mark-nothing}
use Rattle.cayley.proofs.OneCell.OneDependency.{minus-at}

pub sum_positive : (x y z : List ℤ) → IsPositive y → NotNegative z → ((e : ℕ) → at x e ≡ at y e +ℤ at z e) → IsPositive x
sum_positive x y z p q h = positive_mix x y z (pos 1) (pos 1) (pos 1) (omega (arith, ints)) (omega (arith, ints)) (omega (arith, ints)) p q (λ e.
    let i = h e in let a = at-scale (pos 1) x e in let b = at-add (scale (pos 1) y) (scale (pos 1) z) e in let c = at-scale (pos 1) y e in let d = at-scale (pos 1) z e in
    omega (arith, ints, i, a, b, c, d))

pub not_negative_scale : (k : ℤ) (u : List ℤ) → pos 0 <ℤ k → NotNegative u → NotNegative (scale k u)
not_negative_scale k u h (inl p) = inl (positive-scale k u h p)
not_negative_scale k u h (inr z) = inr (zero-scale k u z)

-- negative, or not
pub sign_of : (u : List ℤ) → IsPositive (scale (neg_ℤ (pos 1)) u) ⊎ NotNegative u
sign_of u = three u inl (λ z. inr (inr z)) (λ p. inr (inl p))

-- ---- gaps
pub not_opposite : (t : Time) (v : Normal) (p q : Point) → IsPositive (gap t v p q) → NotNegative (gap t v q p) → ⊥
not_opposite t v p q a (inl b) =
    not_both (gap t v q p) b (positive-same (gap t v p q) _ (λ e.
    let i = gap-potential t v p q e in let j = gap-potential t v q p e in let k = at-scale (neg_ℤ (pos 1)) (gap t v q p) e in
    omega (arith, ints, i, j, k)) a)
not_opposite t v p q a (inr z) = not_zero (gap t v p q) a (level_back t v q p z)

pub gap_onward : (t : Time) (v : Normal) (p q r : Point) → IsPositive (gap t v p q) → NotNegative (gap t v q r) → IsPositive (gap t v p r)
gap_onward t v p q r a b = sum_positive (gap t v p r) (gap t v p q) (gap t v q r) a b (λ e.
    let i = gap-potential t v p q e in let j = gap-potential t v q r e in let k = gap-potential t v p r e in
    omega (arith, ints, i, j, k))

-- a point of a level pair isn't above a point that isn't below
pub not_above_first : (t : Time) (v : Normal) (a r : Point) → NotNegative (gap t v a r) → IsPositive (gap t v r a) → ⊥
not_above_first t v a r n p = not_opposite t v r a p n

pub not_above_second : (t : Time) (v : Normal) (a b r : Point) → IsZero (gap t v a b) → NotNegative (gap t v a r) → IsPositive (gap t v r b) → ⊥
not_above_second t v a b r z n p = not_opposite t v r a (gap_onward t v r b a p (inr (level_back t v a b z))) n

-- ---- values of a normal
pub at-entry : (vs : List (List ℤ)) (k e : ℕ) → at (entries_at e vs) k ≡ at (row_at vs k) e
at-entry [] k e = refl
at-entry (x ∷ vs) zero e = refl
at-entry (x ∷ vs) (suc k) e = at-entry vs k e

-- none negative, or a negative one that is least
pub record LeastValue (vs : List (List ℤ)) : Type 0 where
  pub i : ℕ
  pub is : i < length vs
  pub negative : IsPositive (scale (neg_ℤ (pos 1)) (row_at vs i))
  pub least : (k : ℕ) → k < length vs → NotNegative (sub (row_at vs k) (row_at vs i))

self_zero : (u : List ℤ) → IsZero (sub u u)
self_zero u = zero_from (sub u u) (λ e. minus-at u u e ∙ omega (arith, ints))

less_negative : (u w : List ℤ) → NotNegative u → IsPositive (scale (neg_ℤ (pos 1)) w) → NotNegative (sub u w)
less_negative u w n p = inl (sum_positive (sub u w) (scale (neg_ℤ (pos 1)) w) u p n (λ e.
    let a = minus-at u w e in let b = at-scale (neg_ℤ (pos 1)) w e in omega (arith, ints, a, b)))

pub least_value : (vs : List (List ℤ)) → ((k : ℕ) → k < length vs → NotNegative (row_at vs k)) ⊎ LeastValue vs
least_value [] = inl (λ k l. absurd (omega arith))
least_value (x ∷ vs) = by_cases (sign_of x) (least_value vs)
  where
    at_first : IsPositive (scale (neg_ℤ (pos 1)) x) → ((k : ℕ) → k < length vs → NotNegative (sub (row_at vs k) x)) → LeastValue (x ∷ vs)
    at_first n h = record { i = 0; is = omega arith; negative = n; least = least }
      where
        least : (k : ℕ) → k < length (x ∷ vs) → NotNegative (sub (row_at (x ∷ vs) k) x)
        least zero l = inr (self_zero x)
        least (suc k) l = h k (omega arith)

    at_later : (q : LeastValue vs) → NotNegative (sub x (row_at vs q.i)) → LeastValue (x ∷ vs)
    at_later q h = record { i = suc q.i; is = (let l = q.is in omega (arith, l)); negative = q.negative; least = least }
      where
        least : (k : ℕ) → k < length (x ∷ vs) → NotNegative (sub (row_at (x ∷ vs) k) (row_at vs q.i))
        least zero l = h
        least (suc k) l = q.least k (omega arith)

    compared : (q : LeastValue vs) → IsPositive (scale (neg_ℤ (pos 1)) x) → IsPositive (scale (neg_ℤ (pos 1)) (sub x (row_at vs q.i))) ⊎ NotNegative (sub x (row_at vs q.i)) → LeastValue (x ∷ vs)
    compared q n (inl p) = at_first n (λ k l. inl (sum_positive (sub (row_at vs k) x) (scale (neg_ℤ (pos 1)) (sub x (row_at vs q.i))) (sub (row_at vs k) (row_at vs q.i)) p (q.least k l) (λ e.
        let a = minus-at (row_at vs k) x e in let b = minus-at (row_at vs k) (row_at vs q.i) e in let c = minus-at x (row_at vs q.i) e in let d = at-scale (neg_ℤ (pos 1)) (sub x (row_at vs q.i)) e in
        omega (arith, ints, a, b, c, d))))
    compared q n (inr m) = at_later q m

    by_cases : IsPositive (scale (neg_ℤ (pos 1)) x) ⊎ NotNegative x → ((k : ℕ) → k < length vs → NotNegative (row_at vs k)) ⊎ LeastValue vs
        → ((k : ℕ) → k < length (x ∷ vs) → NotNegative (row_at (x ∷ vs) k)) ⊎ LeastValue (x ∷ vs)
    by_cases (inl n) (inl h) = inr (at_first n (λ k l. less_negative (row_at vs k) x (h k l) n))
    by_cases (inl n) (inr q) = inr (compared q n (sign_of (sub x (row_at vs q.i))))
    by_cases (inr m) (inl h) = inl all
      where
        all : (k : ℕ) → k < length (x ∷ vs) → NotNegative (row_at (x ∷ vs) k)
        all zero l = m
        all (suc k) l = h k (omega arith)
    by_cases (inr m) (inr q) = inr (at_later q (less_negative x (row_at vs q.i) m q.negative))

-- ---- what a base gives to a height
pub base_first : (x : Point) → at (base_of x) 0 ≡ x.base
unfolding base_of
base_first x = at-add (x.base ∷ []) (mark (pos 1) x.rank) 0 ∙ ap (λ y. x.base +ℤ y) (mark-nothing (pos 1) x.rank) ∙ omega (arith, ints)

pub base_nothing : (x : Point) → x.base ≡ pos 0 → x.rank ≡ 0 → (e : ℕ) → at (base_of x) e ≡ pos 0
unfolding base_of
base_nothing x b r zero = at-add (x.base ∷ []) (mark (pos 1) x.rank) 0 ∙ ap (λ y. x.base +ℤ y) (mark-nothing (pos 1) x.rank) ∙ omega (arith, ints, b)
base_nothing x b r (suc e) = at-add (x.base ∷ []) (mark (pos 1) x.rank) (suc e) ∙ ap (λ k. pos 0 +ℤ at (mark (pos 1) k) (suc e)) r
