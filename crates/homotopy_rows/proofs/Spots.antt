-- the sum of the point at a place of a support
use Rattle.std.proofs.Common.{◌≡◌, ◌≢◌, ◌⊎◌, ℕ, ◌+◌, ◌-◌, ◌<◌, ◌≤◌, List, length, map, get_or, inl, inr, arith, refl, sym, ap, ap₂, subst₂, ◌∙◌}
use Rattle.std.proofs.Math.IntN.{ℤ, pos}
use Rattle.std.proofs.lemmas.List.{length-map}
use Rattle.wide_int.specs.Whole.{FitsWhole}
use Rattle.cayley.specs.declared.points.FilePoint.{FilePoint as StoredPoint}
use Rattle.cayley.specs.Cells.{IsFurther}
use Rattle.cayley.specs.Problems.{point_at}
use Rattle.cayley.specs.Resting.{rise}
use Rattle.cell_certificate.specs.Sides.{seen, FitsSupport}
use Rattle.cell_certificate.specs.Sums.{FitsRise}
use Rattle.cell_certificate.proofs.Positions.{seen_from}
use Rattle.homotopy_rows.specs.Points.{IsLevelPair, IsTieAt, IsSumAt}
use Rattle.homotopy_rows.proofs.Summing.{rise_self}

-- at a point of the pair
zero_at : (den : ℤ) (v : List ℤ) (points : List StoredPoint) (a b c : ℕ) → IsLevelPair den v (map seen points) a b → (c ≡ a) ⊎ (c ≡ b)
    → pos 0 ≡ rise den v (point_at (map seen points) a) (point_at (map seen points) c)
zero_at den v points a b c level (inl e) = sym (ap (λ k. rise den v (point_at (map seen points) a) (point_at (map seen points) k)) e ∙ rise_self den v (point_at (map seen points) a))
zero_at den v points a b c level (inr e) = sym (ap (λ k. rise den v (point_at (map seen points) a) (point_at (map seen points) k)) e ∙ level)

zero_fits : FitsWhole (pos 0)
zero_fits = omega arith

pub pair_sum : (den : ℤ) (v : List ℤ) (points : List StoredPoint) (a b c : ℕ) → IsLevelPair den v (map seen points) a b → (c ≡ a) ⊎ (c ≡ b)
    → IsSumAt den v (map seen points) a b c (pos 0)
pair_sum den v points a b c level h = (zero_at den v points a b c level h, zero_fits, λ t. elim h [ inl e ↦ t.0.2 e | inr e ↦ t.0.3 e ])

-- at a further point
module _ (den : ℤ) (v : List ℤ) (points : List StoredPoint) (a b k : ℕ) (x y : StoredPoint) (ha : 1 ≤ a) (la : a ≤ length points) (hk : k < length points)
    (ix : x ≡ get_or points (a - 1) x) (iy : y ≡ get_or points k y) (out : ¬ ((k + 1 ≡ a) ⊎ (k + 1 ≡ b))) where
  first : point_at (map seen points) a ≡ seen x
  first = seen_from points a (a - 1) x (omega (arith, ha)) (omega (arith, ha, la)) ix

  other : point_at (map seen points) (k + 1) ≡ seen y
  other = seen_from points (k + 1) k y refl hk iy

  pub further_at : IsFurther (map seen points) a b (k + 1)
  further_at = let l : length (map seen points) ≡ length points = length-map points seen in (omega arith, omega (arith, l, hk), (λ e. out (inl e)), (λ e. out (inr e)))

  pub fits_there : FitsSupport den v (map seen points) a b → FitsRise den v (seen x) (seen y)
  fits_there f = subst₂ (FitsRise den v) first other (f.1 (k + 1) further_at)

  same_there : rise den v (seen x) (seen y) ≡ rise den v (point_at (map seen points) a) (point_at (map seen points) (k + 1))
  same_there = ap₂ (rise den v) (sym first) (sym other)

  pub tie_there : (w : ℤ) → w ≡ rise den v (seen x) (seen y) → w ≡ pos 0 → IsTieAt den v (map seen points) a b (k + 1)
  tie_there w e z = (further_at, sym same_there ∙ sym e ∙ z)

  pub sum_there : (w : ℤ) → w ≡ rise den v (seen x) (seen y) → FitsWhole w → w ≢ pos 0 → IsSumAt den v (map seen points) a b (k + 1) w
  sum_there w e f n = (e ∙ same_there, f, λ t. n (e ∙ same_there ∙ t.1))
