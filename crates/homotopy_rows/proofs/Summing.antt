-- sums that fit, and the sum of a point against itself
use Rattle.std.proofs.Common.{◌≡◌, List, [], ◌∷◌, arith, refl, ap, ap₂, ◌∙◌}
use Rattle.std.proofs.lemmas.Int.{ints}
use Rattle.std.proofs.Math.IntN.{ℤ, pos, ◌+ℤ◌, ◌-ℤ◌, ◌*ℤ◌, neg_ℤ}
use Rattle.wide_int.proofs.Ring.{zero_mul_ℤ, mul_zero_ℤ}
use Rattle.int_vectors.specs.Vectors.{dot, sub}
use Rattle.cayley.specs.Problems.{Point}
use Rattle.cayley.specs.Resting.{rise}

-- the last partial sum is the whole one
self_dot : (xs v : List ℤ) → dot (sub xs xs) v ≡ pos 0
self_dot [] v = refl
self_dot (x ∷ xs) [] = refl
self_dot (x ∷ xs) (y ∷ v) = ap₂ (λ a b. a +ℤ b) (step x y) (self_dot xs v)
  where
    step : (x y : ℤ) → (x +ℤ neg_ℤ (pos 1) *ℤ x) *ℤ y ≡ pos 0
    step x y = let e : x +ℤ neg_ℤ (pos 1) *ℤ x ≡ pos 0 = omega (arith, ints) in ap (λ z. z *ℤ y) e ∙ zero_mul_ℤ y

pub rise_self : (den : ℤ) (v : List ℤ) (x : Point) → rise den v x x ≡ pos 0
rise_self den v x =
    let e : x.base -ℤ x.base ≡ pos 0 = omega (arith, ints) in
    ap₂ (λ a b. a +ℤ b) (ap (λ z. den *ℤ z) e ∙ mul_zero_ℤ den) (self_dot x.coordinates v)
