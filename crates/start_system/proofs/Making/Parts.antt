-- the supports of a path, one after the other, and the parts that a file gives
use Rattle.std.proofs.Common.{◌≡◌, ℕ, zero, suc, ◌+◌, ◌<◌, ◌≤◌, List, [], ◌∷◌, ◌++◌, length, map, take, get_or, Result, Ok, Err, IfOk, arith, refl, sym, ap, ap₂, subst, ◌∙◌}
use Rattle.std.proofs.Math.IntN.{ℤ}
use Rattle.std.proofs.lemmas.List.{length-map}
use Rattle.int_vectors.specs.Vectors.{Each}
use Rattle.cayley.specs.Problems.{Point}
use Rattle.cayley.specs.Files.{FilePoint, File, resting}
use Rattle.cayley.specs.declared.points.FilePoint.{FilePoint as StoredFilePoint}
use Rattle.cayley.specs.Stored.{file_point}
use Rattle.cayley.specs.Paths.{corners, path_supports, starts_of}
use Rattle.cayley.specs.Valid.{IsCoordinate, IsValidFile, IsWithinFile}
use Rattle.int_vectors.proofs.Each.{all_each, each_unmap, each_weaker, map_at, map_map, map_same}
use Rattle.start_system.specs.Corners.{ArePoints, ArePathParts}
use Rattle.start_system.proofs.Path.Supports.{AreHeights}
use Rattle.start_system.proofs.Started.Heights.{valid_lift}
use Rattle.start_system.proofs.Making.Entries.{next_taken, last_taken}

pub length-path : (i : ℕ) (supports : List (List FilePoint)) (starts : List (List ℤ)) → length (path_supports i supports starts) ≡ length supports
length-path i [] starts = refl
length-path i (s ∷ supports) [] = ap suc (length-path (suc i) supports [])
length-path i (s ∷ supports) (z ∷ starts) = ap suc (length-path (suc i) supports starts)

path_at : (i k : ℕ) (supports : List (List FilePoint)) (starts : List (List ℤ)) (s : List FilePoint) (z : List ℤ) → k < length supports → k < length starts
    → s ≡ get_or supports k s → z ≡ get_or starts k z → map resting s ++ corners (k + i) s z ≡ get_or (path_supports i supports starts) k []
path_at i k [] starts s z l m e f = absurd (omega arith)
path_at i k (x ∷ supports) [] s z l m e f = absurd (omega arith)
path_at i zero (x ∷ supports) (y ∷ starts) s z l m e f = let o : 0 + i ≡ i = omega arith in ap (λ j. map resting s ++ corners j s z) o ∙ ap₂ (λ (a : List FilePoint) (b : List ℤ). map resting a ++ corners i a b) e f
path_at i (suc k) (x ∷ supports) (y ∷ starts) s z l m e f =
    let o : suc k + i ≡ k + suc i = omega arith in
    ap (λ j. map resting s ++ corners j s z) o ∙ path_at (suc i) k supports starts s z (omega arith) (omega arith) e f

module _ {X Y : Type 0} (f : X → List FilePoint) (g : Y → List ℤ) (xs : List X) (ys : List Y) (h : ArePathParts (map f xs) (map g ys)) where
  count : length (map f xs) ≡ length xs
  count = length-map xs f

  pub same_count : length ys ≡ length xs
  same_count = sym (length-map ys g) ∙ h.count ∙ count

  pub few : length xs ≤ 16
  few = let a = h.dimension in omega (arith, a, count)

  pub heights_at : (k : ℕ) (y : Y) → k < length xs → y ≡ get_or ys k y → suc (length (g y)) ≡ length xs
  heights_at k y l e =
      let c = same_count in
      subst (λ z. suc (length (g z)) ≡ length xs) (sym e)
      (all_each (λ z. suc (length (g z)) ≡ length (map f xs)) ys (each_unmap g _ ys h.heights) k y (omega (arith, c, l)) ∙ count)

  pub counted_at : (k : ℕ) (x : X) → k < length xs → x ≡ get_or xs k x → length (f x) ≤ 1000
  counted_at k x l e = subst (λ z. length (f z) ≤ 1000) (sym e) (all_each _ xs (each_unmap f _ xs h.points) k x l).0

  pub parts_at : (k n : ℕ) (x : X) → k < length xs → x ≡ get_or xs k x → n ≡ length xs → ArePoints n (f x)
  parts_at k n x l e o =
      subst (λ z. ArePoints n (f z)) (sym e) (subst (λ j. ArePoints j (f (get_or xs k x))) (count ∙ sym o) (all_each _ xs (each_unmap f _ xs h.points) k x l).1)

  pub support_more : (k : ℕ) (x : X) (y : Y) (made : List (List Point)) (s : List Point) → k < length xs → x ≡ get_or xs k x → y ≡ get_or ys k y
      → s ≡ map resting (f x) ++ corners (k + 1) (f x) (g y) → made ≡ take k (path_supports 1 (map f xs) (map g ys)) → made ++ (s ∷ []) ≡ take (k + 1) (path_supports 1 (map f xs) (map g ys))
  support_more k x y made s l e u is inv =
      let c = same_count in
      let a = length-map xs f in
      let b = length-map ys g in
      let n = length-path 1 (map f xs) (map g ys) in
      next_taken (path_supports 1 (map f xs) (map g ys)) made k s [] inv (omega (arith, n, a, l))
      (is ∙ path_at 1 k (map f xs) (map g ys) (f x) (g y) (omega (arith, a, l)) (omega (arith, b, c, l)) (map_at f xs k x (f x) e l) (map_at g ys k y (g y) u (omega (arith, c, l))))

  pub support_end : (k : ℕ) (made : List (List Point)) → made ≡ take k (path_supports 1 (map f xs) (map g ys)) → length xs ≤ k → made ≡ path_supports 1 (map f xs) (map g ys)
  support_end k made inv l =
      let a = length-map xs f in
      let n = length-path 1 (map f xs) (map g ys) in
      last_taken (path_supports 1 (map f xs) (map g ys)) made k inv (omega (arith, n, a, l))

-- ---- of a valid file
both_points : (n : ℕ) (s : List FilePoint) → Each s (λ (x : FilePoint). length x.coordinates ≡ n) → Each s IsWithinFile → Each s (λ x. (length x.coordinates ≡ n) × Each x.coordinates IsCoordinate)
both_points n [] h g = tt
both_points n (x ∷ s) h g = ((h.0, g.0.0), both_points n s h.1 g.1)

all_points : (n : ℕ) (supports : List (List FilePoint)) → Each supports (λ s. (1 ≤ length s) × (length s ≤ 1000)) → Each supports (λ s. Each s (λ (x : FilePoint). length x.coordinates ≡ n))
    → Each supports (λ s. Each s IsWithinFile) → Each supports (λ s. (length s ≤ 1000) × ArePoints n s)
all_points n [] c h g = tt
all_points n (s ∷ supports) c h g = ((c.0.1, (c.0.0, both_points n s h.0 g.0)), all_points n supports c.1 h.1 g.1)

pub parts_of : (file : File) → IsValidFile file → ArePathParts file.supports (starts_of file)
parts_of file v =
    let lift = valid_lift file v in
    let n = v.shape.supports in
    record {
      dimension = (let d = v.shape.dimension.1 in omega (arith, n, d));
      count = lift.starts ∙ sym n;
      heights = each_weaker (AreHeights file.dimension) (λ s. suc (length s) ≡ length file.supports) (starts_of file) (λ s k. k.0 ∙ sym n) lift.heights;
      points = subst (λ (m : ℕ). Each file.supports (λ s. (length s ≤ 1000) × ArePoints m s)) (sym n) (all_points file.dimension file.supports v.shape.counts v.shape.points v.limits);
    }

pub counts_of : {X : Type 0} (items : X → List StoredFilePoint) (xs : List X) (supports : List (List FilePoint)) → map (λ s. map file_point (items s)) xs ≡ supports → map (λ s. length (items s)) xs ≡ map length supports
counts_of items xs supports is =
    map_same (λ s. length (items s)) (λ s. length (map file_point (items s))) (λ s. sym (length-map (items s) file_point)) xs
    ∙ sym (map_map length (λ s. map file_point (items s)) xs) ∙ ap (map length) is

pub same_parts : {a b : List (List FilePoint)} {s t : List (List ℤ)} → a ≡ b → s ≡ t → ArePathParts b t → ArePathParts a s
same_parts {a} {b} {s} {t} e f h = subst (λ x. ArePathParts x s) (sym e) (subst (λ x. ArePathParts b x) (sym f) h)

-- ---- what holds of an answer
pub if_ok_weaker : {A E : Type 0} (r : Result A E) (P Q : A → Type 0) → ((x : A) → P x → Q x) → IfOk r P → IfOk r Q
if_ok_weaker (Ok x) P Q f h = f x h
if_ok_weaker (Err e) P Q f h = h
