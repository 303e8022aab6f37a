-- the supports of a file's points
use Rattle.std.proofs.Common.{◌≡◌, ℕ, zero, suc, ◌<◌, ◌≤◌, List, [], ◌∷◌, length, map, get_or, arith, refl, sym, ap, subst, ◌∙◌}
use Rattle.std.proofs.lemmas.List.{length-map}
use Rattle.int_vectors.specs.Vectors.{Each}
use Rattle.cayley.specs.declared.points.FilePoint.{FilePoint as StoredPoint}
use Rattle.cayley.specs.Stored.{file_point}
use Rattle.cayley.specs.Valid.{IsValidFile, IsWithinFile}
use Rattle.cayley.specs.Files.{FilePoint, File, resting, plain_problem}
use Rattle.cayley.specs.Problems.{unperturbed}
use Rattle.cayley.specs.Cells.{Cell, IsOf}
use Rattle.int_vectors.proofs.Each.{map_map, each_both}
use Rattle.cayley.proofs.Lists.Pairs.{pairs_long}
use Rattle.cell_certificate.specs.Sides.{seen, IsNear, IsPairOf}
use Rattle.cell_certificate.proofs.PlainPoints.{resting_points}
use Rattle.cell_certificate.proofs.Turns.{pair_at}

pub supports_count : (file : File) → IsValidFile file → length (unperturbed (plain_problem file)).supports ≡ file.dimension
supports_count file valid = ap length (resting_points file) ∙ length-map file.supports (map resting) ∙ valid.shape.supports

at_map : {A B : Type 0} (f : A → B) (xs : List A) (k : ℕ) (d : A) (e : B) → k < length xs → get_or (map f xs) k e ≡ f (get_or xs k d)
at_map f [] k d e h = absurd (omega arith)
at_map f (x ∷ xs) zero d e h = refl
at_map f (x ∷ xs) (suc k) d e h = at_map f xs k d e (omega arith)

pub support_is : (file : File) (points : List StoredPoint) (k : ℕ) → IsValidFile file → k < file.dimension → map file_point points ≡ get_or file.supports k []
    → get_or (unperturbed (plain_problem file)).supports k [] ≡ map seen points
support_is file points k valid h e =
    let l : k < length file.supports = omega (arith, h, valid.shape.supports) in
    ap (λ ss. get_or ss k []) (resting_points file)
    ∙ at_map (map resting) file.supports k [] [] l
    ∙ ap (map resting) (sym e)
    ∙ map_map resting file_point points

each_at : {A : Type 0} (P : List A → Type 0) (xs : List (List A)) (k : ℕ) → k < length xs → Each xs P → P (get_or xs k [])
each_at P [] k h e = absurd (omega arith)
each_at P (x ∷ xs) zero h e = e.0
each_at P (x ∷ xs) (suc k) h e = each_at P xs k (omega arith) e.1

pub near_is : (file : File) (points : List StoredPoint) (k n : ℕ) → IsValidFile file → k < file.dimension → n ≡ file.dimension → map file_point points ≡ get_or file.supports k []
    → Each (map file_point points) (IsNear n)
near_is file points k n valid h d e =
    let l : k < length file.supports = omega (arith, h, valid.shape.supports) in
    let long = each_at (λ s. Each s (λ (x : FilePoint). length x.coordinates ≡ file.dimension)) file.supports k l valid.shape.points in
    let within = each_at (λ s. Each s IsWithinFile) file.supports k l valid.limits in
    subst (λ m. Each (map file_point points) (IsNear m)) (sym d)
    (subst (λ s. Each s (IsNear file.dimension)) (sym e) (each_both (λ (x : FilePoint). length x.coordinates ≡ file.dimension) IsWithinFile (get_or file.supports k []) long within))

-- a pair of the cell, as positions of the file's points
pub pair_is : (file : File) (cell pairs : Cell) (points : List StoredPoint) (k : ℕ) → IsValidFile file → IsOf (unperturbed (plain_problem file)) cell → k < file.dimension
    → map file_point points ≡ get_or file.supports k [] → pairs ≡ cell → IsPairOf (length points) (get_or pairs k (0, 0))
pair_is file cell pairs points k valid of h e same =
    let supports = (unperturbed (plain_problem file)).supports in
    let l : k < length cell = omega (arith, h, supports_count file valid, pairs_long supports cell (λ s a b. (1 ≤ a) × (a < b) × (b ≤ length s)) of) in
    let r = pair_at supports cell (λ s a b. (1 ≤ a) × (a < b) × (b ≤ length s)) k of l in
    let m = ap length (support_is file points k valid h e) ∙ length-map points seen in
    subst (λ ps. IsPairOf (length points) (get_or ps k (0, 0))) (sym same) (r.1.0, r.1.1, subst (λ n. (get_or cell k (0, 0)).1 ≤ n) m r.1.2)

pub cell_count : (file : File) (cell : Cell) → IsValidFile file → IsOf (unperturbed (plain_problem file)) cell → length cell ≡ file.dimension
cell_count file cell valid of =
    sym (pairs_long (unperturbed (plain_problem file)).supports cell (λ s a b. (1 ≤ a) × (a < b) × (b ≤ length s)) of) ∙ supports_count file valid
