-- points at their positions, and what the sum of one of them says
use Rattle.std.proofs.Common.{◌≡◌, ◌≢◌, ◌↔◌, ℕ, zero, suc, ◌+◌, ◌-◌, ◌<◌, List, [], ◌∷◌, length, map, get_or, arith, refl, sym, ap, subst, ℤ, pos, ◌<ℤ◌}
use Rattle.std.specs.Prelude.{slice_index_or}
use Rattle.std.proofs.lemmas.List.{length-map}
use Rattle.int_vectors.specs.Vectors.{Each}
use Rattle.cayley.specs.declared.points.FilePoint.{FilePoint as StoredPoint}
use Rattle.cayley.specs.Stored.{file_point}
use Rattle.cayley.specs.Files.{FilePoint}
use Rattle.cayley.specs.Problems.{origin, point_at}
use Rattle.cell_certificate.specs.Sides.{seen}
use Rattle.cell_certificate.specs.Sums.{FitsRise, FitsAt, RisesAt, UntiedAt}
use Rattle.cayley.specs.Resting.{rise}

-- what is true of each mapped element is true at a place
pub mapped_at : (P : FilePoint → Type 0) (points : List StoredPoint) (k : ℕ) (x : StoredPoint) → Each (map file_point points) P → k < length points
    → x ≡ get_or points k x → P (file_point x)
mapped_at P [] k x e h i = absurd (omega arith)
mapped_at P (y ∷ points) zero x e h i = subst (λ z. P (file_point z)) (sym i) e.0
mapped_at P (y ∷ points) (suc k) x e h i = mapped_at P points k x e.1 (omega arith) i

seen_at : (points : List StoredPoint) (k : ℕ) (x : StoredPoint) → k < length points → x ≡ get_or points k x → slice_index_or (map seen points) k origin ≡ seen x
seen_at [] k x h i = absurd (omega arith)
seen_at (y ∷ points) zero x h i = ap seen (sym i)
seen_at (y ∷ points) (suc k) x h i = seen_at points k x (omega arith) i

pub seen_from : (points : List StoredPoint) (a k : ℕ) (x : StoredPoint) → a ≡ k + 1 → k < length points → x ≡ get_or points k x → point_at (map seen points) a ≡ seen x
seen_from points a k x e h i = let d : a - 1 ≡ k = omega arith in rw d (seen_at points k x h i)

-- the point at place k against that at place j
module _ (den : ℤ) (v : List ℤ) (points : List StoredPoint) (a b j k : ℕ) (x y : StoredPoint) (ea : a ≡ j + 1) (hj : j < length points) (hk : k < length points)
    (ix : x ≡ get_or points j x) (iy : y ≡ get_or points k y) where
  first : point_at (map seen points) a ≡ seen x
  first = seen_from points a j x ea hj ix

  other : point_at (map seen points) (k + 1) ≡ seen y
  other = seen_from points (k + 1) k y refl hk iy

  pub unfit_at : k + 1 ≢ a → k + 1 ≢ b → ¬ (FitsRise den v (seen x) (seen y)) → ¬ (FitsAt den v (map seen points) a b (k + 1))
  unfit_at na nb n f =
      let l : length (map seen points) ≡ length points = length-map points seen in
      let g = f (omega arith, omega (arith, l), na, nb) in
      n (subst (λ z. FitsRise den v z (seen y)) first (subst (λ z. FitsRise den v (point_at (map seen points) a) z) other g))

  pub fits_at : FitsRise den v (seen x) (seen y) → FitsAt den v (map seen points) a b (k + 1)
  fits_at f u = subst (λ z. FitsRise den v z (point_at (map seen points) (k + 1))) (sym first) (subst (λ z. FitsRise den v (seen x) z) (sym other) f)

  pub rises_at : k + 1 ≢ a → k + 1 ≢ b → (pos 0 <ℤ rise den v (seen x) (seen y)) ↔ RisesAt den v (map seen points) a b (k + 1)
  rises_at na nb =
      let l : length (map seen points) ≡ length points = length-map points seen in (
        (λ p u. subst (λ z. pos 0 <ℤ rise den v z (point_at (map seen points) (k + 1))) (sym first) (subst (λ z. pos 0 <ℤ rise den v (seen x) z) (sym other) p)),
        (λ r. subst (λ z. pos 0 <ℤ rise den v z (seen y)) first (subst (λ z. pos 0 <ℤ rise den v (point_at (map seen points) a) z) other (r (omega arith, omega (arith, l), na, nb)))),
      )

  pub untied_at : k + 1 ≢ a → k + 1 ≢ b → (rise den v (seen x) (seen y) ≢ pos 0) ↔ UntiedAt den v (map seen points) a b (k + 1)
  untied_at na nb =
      let l : length (map seen points) ≡ length points = length-map points seen in (
        (λ p u. subst (λ z. rise den v z (point_at (map seen points) (k + 1)) ≢ pos 0) (sym first) (subst (λ z. rise den v (seen x) z ≢ pos 0) (sym other) p)),
        (λ r. subst (λ z. rise den v z (seen y) ≢ pos 0) first (subst (λ z. rise den v (point_at (map seen points) a) z ≢ pos 0) other (r (omega arith, omega (arith, l), na, nb)))),
      )
