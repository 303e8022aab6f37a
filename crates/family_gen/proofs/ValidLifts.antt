-- The file of lifted supports is valid.
use Rattle.std.proofs.Common.{◌≡◌, ℕ, suc, ◌+◌, ◌≤◌, List, [], ◌∷◌, length, map, ℤ, refl, ap, sym, subst, ◌∙◌, arith}
use Rattle.std.specs.Global.{Vec}
use Rattle.int_vectors.specs.Vectors.{Each}
use Rattle.cayley.specs.declared.points.FilePoint.{FilePoint as StoredFilePoint}
use Rattle.cayley.specs.Stored.{file_point}
use Rattle.cayley.specs.Files.{FilePoint}
use Rattle.int_vectors.proofs.Each.{map_map}
use Rattle.cayley.specs.Valid.{AreDistinct, IsCoordinate, IsWithinFile, IsValidFile}
use Rattle.family_gen.specs.Lifts.{lifted, lifted_supports, lift_file}
use Rattle.family_gen.proofs.LiftedPoints.{height_fits}

-- what the points of a support keep
pub record IsSupport (n : ℕ) (s : List (List ℤ)) : Type 0 where
  pub count : (1 ≤ length s) × (length s ≤ 1000)
  pub points : Each s (λ x. length x ≡ n)
  pub limits : Each s (λ x. Each x IsCoordinate)
  pub distinct : AreDistinct s

lifted-length : (seed m : ℕ) (xs : List (List ℤ)) → length (lifted seed m xs) ≡ length xs
unfolding lifted
lifted-length seed m [] = refl
lifted-length seed m (x ∷ xs) = ap suc (lifted-length seed (suc m) xs)

lifted_coordinates : (seed m : ℕ) (xs : List (List ℤ)) → map (λ (p : FilePoint). p.coordinates) (lifted seed m xs) ≡ xs
unfolding lifted
lifted_coordinates seed m [] = refl
lifted_coordinates seed m (x ∷ xs) = ap (λ (l : List (List ℤ)). x ∷ l) (lifted_coordinates seed (suc m) xs)

lifted_points : (n seed m : ℕ) (xs : List (List ℤ)) → Each xs (λ x. length x ≡ n) → Each (lifted seed m xs) (λ (p : FilePoint). length p.coordinates ≡ n)
unfolding lifted
lifted_points n seed m [] h = tt
lifted_points n seed m (x ∷ xs) h = (h.0, lifted_points n seed (suc m) xs h.1)

lifted_limits : (seed m : ℕ) (xs : List (List ℤ)) → Each xs (λ x. Each x IsCoordinate) → Each (lifted seed m xs) IsWithinFile
unfolding lifted
lifted_limits seed m [] h = tt
lifted_limits seed m (x ∷ xs) h = ((h.0, height_fits seed (suc m) (omega arith)), lifted_limits seed (suc m) xs h.1)

-- a property of each support, once it is lifted
each_lifted : (P : List (List ℤ) → Type 0) (Q : List FilePoint → Type 0) → ((seed m : ℕ) (s : List (List ℤ)) → P s → Q (lifted seed m s)) → (seed m : ℕ) (ss : List (List (List ℤ))) → Each ss P → Each (lifted_supports seed m ss) Q
unfolding lifted_supports
each_lifted P Q f seed m [] h = tt
each_lifted P Q f seed m (s ∷ ss) h = (f seed m s h.0, each_lifted P Q f seed (m + length s) ss h.1)

supports-length : (seed m : ℕ) (ss : List (List (List ℤ))) → length (lifted_supports seed m ss) ≡ length ss
unfolding lifted_supports
supports-length seed m [] = refl
supports-length seed m (s ∷ ss) = ap suc (supports-length seed (m + length s) ss)

pub lift_valid : (n : ℕ) (ss : List (List (List ℤ))) (seed : ℕ) → 1 ≤ n → n ≤ 16 → length ss ≡ n → Each ss (IsSupport n) → IsValidFile (lift_file n ss seed)
lift_valid n ss seed least greatest count each = record {
  shape = record {
    dimension = (least, greatest);
    supports = supports-length seed 0 ss ∙ count;
    counts = each_lifted (IsSupport n) (λ s. (1 ≤ length s) × (length s ≤ 1000)) (λ seed m s h. let e = lifted-length seed m s in rw e h.count) seed 0 ss each;
    points = each_lifted (IsSupport n) (λ s. Each s (λ (x : FilePoint). length x.coordinates ≡ n)) (λ seed m s h. lifted_points n seed m s h.points) seed 0 ss each;
    starts = tt;
  };
  limits = each_lifted (IsSupport n) (λ s. Each s IsWithinFile) (λ seed m s h. lifted_limits seed m s h.limits) seed 0 ss each;
  distinct = each_lifted (IsSupport n) (λ s. AreDistinct (map (λ (x : FilePoint). x.coordinates) s)) (λ seed m s h. subst AreDistinct (sym (lifted_coordinates seed m s)) h.distinct) seed 0 ss each;
  starts = tt;
}

-- the same of vectors of vectors
pub supports_from : (n : ℕ) (ss : List (Vec (List ℤ))) → Each ss (λ s. (1 ≤ length s.items) × (length s.items ≤ 1000)) → Each ss (λ s. Each s.items (λ x. length x ≡ n))
    → Each ss (λ s. Each s.items (λ x. Each x IsCoordinate)) → Each ss (λ s. AreDistinct s.items) → Each (map (λ (s : Vec (List ℤ)). s.items) ss) (IsSupport n)
supports_from n [] a b c d = tt
supports_from n (s ∷ ss) a b c d = (record { count = a.0; points = b.0; limits = c.0; distinct = d.0 }, supports_from n ss a.1 b.1 c.1 d.1)

-- the code's points, support by support
pub lifted_seen : (ss : List (Vec StoredFilePoint)) (all : List (List FilePoint)) → map (λ (s : Vec StoredFilePoint). map file_point s.items) ss ≡ all → map (map file_point) (map (λ (s : Vec StoredFilePoint). s.items) ss) ≡ all
lifted_seen ss all e = map_map (map file_point) (λ (s : Vec StoredFilePoint). s.items) ss ∙ e
