-- the form of a problem that the proofs use, and the path of a file has it
use Rattle.std.proofs.Common.{◌≡◌, ℕ, suc, ◌+◌, ◌<◌, ◌≤◌, List, [], ◌∷◌, ◌++◌, length, map, arith, refl, sym, ap, subst, ◌∙◌}
use Rattle.std.proofs.Math.IntN.{ℤ}
use Rattle.int_vectors.specs.Vectors.{Each}
use Rattle.cayley.specs.Problems.{Version, version1, version2, Point, Problem, IsProblem, EachSupport, point_at, with_rank, ranks_in, numbered_supports, ranked_supports}
use Rattle.cayley.specs.Problems.Version.{version1, version2}
use Rattle.cayley.specs.Files.{FilePoint, File, resting}
use Rattle.cayley.specs.Paths.{corners, path_supports, path, starts_of}
use Rattle.cayley.proofs.Algebra.Dependence.{length-map}
use Rattle.start_system.proofs.Path.Positions.{from_zero, point_suc}
use Rattle.start_system.proofs.Path.Reach.{Long}
use Rattle.start_system.proofs.Path.Shape.{Shapes}
use Rattle.start_system.proofs.Path.Numbering.{unranked, numbered_reranked}
use Rattle.start_system.proofs.Path.Supports.{AreHeights, support_long, support_shape}

-- each support has some file points, and a corner more than the dimension behind them
abbrev pub Longs : ℕ → ℕ → List ℕ → List (List Point) → Type 0
Longs n i files supports = EachSupport i files supports (λ i f s. (1 ≤ f) × (length s ≡ f + suc n))

-- supports that have the shapes of a path, with the ranks of the version over some points
pub record HasForm (p : Problem) : Type 0 where
  pub some : 1 ≤ p.dimension
  pub supports : length p.supports ≡ p.dimension
  pub plain : List (List Point)
  pub ranks : p.supports ≡ ranked_supports p.version p.files plain
  pub longs : Longs p.dimension 0 p.files plain
  pub long : Longs p.dimension 0 p.files p.supports
  pub shapes : Shapes p.dimension 0 p.supports

-- what of a file its path is made of
pub record IsLift (file : File) : Type 0 where
  pub some : 1 ≤ file.dimension
  pub supports : length file.supports ≡ file.dimension
  pub points : Each file.supports (λ s. (1 ≤ length s) × Long file.dimension s)
  pub starts : length (starts_of file) ≡ file.dimension
  pub heights : Each (starts_of file) (AreHeights file.dimension)

-- ---- all supports
module _ (n : ℕ) where
  abbrev Points : List (List FilePoint) → Type 0
  Points supports = Each supports (λ s. (1 ≤ length s) × Long n s)

  path_longs : (i j : ℕ) (supports : List (List FilePoint)) (starts : List (List ℤ)) → Points supports → length starts ≡ length supports → i + length supports ≡ n → Each starts (AreHeights n)
      → Longs n j (map length supports) (path_supports (suc i) supports starts)
  path_longs i j [] starts w l o h = tt
  path_longs i j (s ∷ supports) [] w l o h = absurd (omega arith)
  path_longs i j (s ∷ supports) (z ∷ starts) w l o h =
      ((w.0.0, support_long n i s z (omega arith) h.0), path_longs (suc i) (suc j) supports starts w.1 (omega arith) (omega arith) h.1)

  path_shapes1 : (i : ℕ) (supports : List (List FilePoint)) (starts : List (List ℤ)) → Points supports → length starts ≡ length supports → i + length supports ≡ n → Each starts (AreHeights n)
      → Shapes n i (map (map (with_rank 0)) (path_supports (suc i) supports starts))
  path_shapes1 i [] starts w l o h = tt
  path_shapes1 i (s ∷ supports) [] w l o h = absurd (omega arith)
  path_shapes1 i (s ∷ supports) (z ∷ starts) w l o h = (
    support_shape n i s z _ w.0.0 w.0.1 (omega arith) h.0 (unranked (length s) i (map resting s ++ corners (suc i) s z)),
    path_shapes1 (suc i) supports starts w.1 (omega arith) (omega arith) h.1,
  )

  path_shapes2 : (i r : ℕ) (supports : List (List FilePoint)) (starts : List (List ℤ)) → Points supports → length starts ≡ length supports → i + length supports ≡ n → Each starts (AreHeights n)
      → Shapes n i (numbered_supports (suc i) r (map length supports) (path_supports (suc i) supports starts))
  path_shapes2 i r [] starts w l o h = tt
  path_shapes2 i r (s ∷ supports) [] w l o h = absurd (omega arith)
  path_shapes2 i r (s ∷ supports) (z ∷ starts) w l o h = (
    support_shape n i s z _ w.0.0 w.0.1 (omega arith) h.0 (numbered_reranked (length s) i r (map resting s ++ corners (suc i) s z)),
    path_shapes2 (suc i) (r + ranks_in (length s) (map resting s ++ corners (suc i) s z)) supports starts w.1 (omega arith) (omega arith) h.1,
  )

  ranked_longs1 : (i : ℕ) (files : List ℕ) (supports : List (List Point)) → Longs n i files supports → Longs n i files (map (map (with_rank 0)) supports)
  ranked_longs1 i [] [] w = tt
  ranked_longs1 i [] (s ∷ supports) w = w
  ranked_longs1 i (f ∷ files) [] w = w
  ranked_longs1 i (f ∷ files) (s ∷ supports) w = ((w.0.0, length-map (with_rank 0) s ∙ w.0.1), ranked_longs1 (suc i) files supports w.1)

  ranked_longs2 : (i r : ℕ) (files : List ℕ) (supports : List (List Point)) → Longs n i files supports → Longs n i files (numbered_supports (suc i) r files supports)
  ranked_longs2 i r [] [] w = tt
  ranked_longs2 i r [] (s ∷ supports) w = absurd w
  ranked_longs2 i r (f ∷ files) [] w = w
  ranked_longs2 i r (f ∷ files) (s ∷ supports) w = ((w.0.0, (numbered_reranked f i r s).long ∙ w.0.1), ranked_longs2 (suc i) (r + ranks_in f s) files supports w.1)

  ranked_longs : (version : Version) (files : List ℕ) (supports : List (List Point)) → Longs n 0 files supports → Longs n 0 files (ranked_supports version files supports)
  ranked_longs version1 files supports w = ranked_longs1 0 files supports w
  ranked_longs version2 files supports w = ranked_longs2 0 1 files supports w

pub longs_count : (n i : ℕ) (files : List ℕ) (supports : List (List Point)) → Longs n i files supports → length supports ≡ length files
longs_count n i [] [] w = refl
longs_count n i [] (s ∷ supports) w = absurd w
longs_count n i (f ∷ files) [] w = absurd w
longs_count n i (f ∷ files) (s ∷ supports) w = ap suc (longs_count n (suc i) files supports w.1)

path_shapes : (n : ℕ) (version : Version) (supports : List (List FilePoint)) (starts : List (List ℤ)) → Each supports (λ s. (1 ≤ length s) × Long n s) → length starts ≡ length supports → length supports ≡ n
    → Each starts (AreHeights n) → Shapes n 0 (ranked_supports version (map length supports) (path_supports 1 supports starts))
path_shapes n version1 supports starts w l o h = path_shapes1 n 0 supports starts w l (omega arith) h
path_shapes n version2 supports starts w l o h = path_shapes2 n 0 1 supports starts w l (omega arith) h

-- the path of a file
pub path_form : (file : File) → IsLift file → HasForm (path file)
path_form file w =
    let n = file.dimension in
    let starts = starts_of file in
    let files = map length file.supports in
    let plain = path_supports 1 file.supports starts in
    let ls = w.starts ∙ sym w.supports in
    let longs = path_longs n 0 0 file.supports starts w.points ls (let l = w.supports in omega (arith, l)) w.heights in
    let long = ranked_longs n file.version files plain longs in
    record {
      some = w.some;
      supports = longs_count n 0 files (ranked_supports file.version files plain) long ∙ length-map length file.supports ∙ w.supports;
      plain = plain;
      ranks = refl;
      longs = longs;
      long = long;
      shapes = path_shapes n file.version file.supports starts w.points ls w.supports w.heights;
    }

-- ---- a problem of this form is a problem
flat_points : (n : ℕ) (s : List Point) → ((c : ℕ) → 1 ≤ c → c ≤ length s → length (point_at s c).coordinates ≡ n) → Each s (λ (x : Point). length x.coordinates ≡ n)
flat_points n s h = from s (λ k l. subst (λ (x : Point). length x.coordinates ≡ n) (point_suc s k) (h (suc k) (omega arith) (omega arith)))
  where
    from : (s : List Point) → ((k : ℕ) → k < length s → length (from_zero s k).coordinates ≡ n) → Each s (λ (x : Point). length x.coordinates ≡ n)
    from [] h = tt
    from (x ∷ s) h = (h 0 (omega arith), from s (λ k l. h (suc k) (omega arith)))

flat_supports : (n i : ℕ) (supports : List (List Point)) → Shapes n i supports → Each supports (λ s. Each s (λ (x : Point). length x.coordinates ≡ n))
flat_supports n i [] w = tt
flat_supports n i (s ∷ supports) w = (flat_points n s w.0.flat, flat_supports n (suc i) supports w.1)

pub form_well : (p : Problem) → HasForm p → IsProblem p
form_well p w = record { supports = w.supports; points = flat_supports p.dimension 0 p.supports w.shapes }
