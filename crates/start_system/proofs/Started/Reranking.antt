-- ranks are given by version and place alone, and the file points of a path are those of its file
use Rattle.std.proofs.Common.{◌≡◌, ℕ, suc, ◌+◌, Bool, true, false, if◌then◌else◌, List, [], ◌∷◌, ◌++◌, length, map, take, min, ◌-◌, refl, sym, ap, ap₂, ◌∙◌}
use Rattle.std.proofs.Math.IntN.{ℤ}
use Rattle.cayley.specs.Problems.{Version, version1, version2, Point, with_rank, is_start_corner, numbered, ranks_in, numbered_supports, ranked_supports, first_points, file_points}
use Rattle.cayley.specs.Problems.Version.{version1, version2}
use Rattle.cayley.specs.Files.{FilePoint, File, resting, plain_problem}
use Rattle.cayley.specs.Stored.{held}
use Rattle.cayley.specs.Paths.{corners, path_supports, path, starts_of}
use Rattle.int_vectors.proofs.Each.{map_map, map_same, map_take}
use Rattle.cayley.proofs.Algebra.Dependence.{length-map}

abbrev bare : List Point → List Point
bare s = map (with_rank 0) s

-- ---- the ranks of points without ranks
numbered_bare : (i f c r : ℕ) (xs : List Point) → numbered i f c r (bare xs) ≡ numbered i f c r xs
numbered_bare i f c r [] = refl
numbered_bare i f c r (x ∷ xs) =
    ap₂ (λ (ys zs : List Point). if is_start_corner i f c then with_rank 0 x ∷ ys else with_rank r x ∷ zs) (numbered_bare i f (suc c) r xs) (numbered_bare i f (suc c) (suc r) xs)

numbered_all_bare : (i r : ℕ) (files : List ℕ) (supports : List (List Point)) → numbered_supports i r files (map bare supports) ≡ numbered_supports i r files supports
numbered_all_bare i r files [] = refl
numbered_all_bare i r [] (s ∷ supports) =
    ap₂ (λ (y : List Point) (ys : List (List Point)). y ∷ ys) (numbered_bare i 0 1 r s)
    (ap (λ j. numbered_supports (suc i) (r + (j - min 2 (j - 0))) [] (map bare supports)) (length-map (with_rank 0) s) ∙ numbered_all_bare (suc i) (r + ranks_in 0 s) [] supports)
numbered_all_bare i r (f ∷ files) (s ∷ supports) =
    ap₂ (λ (y : List Point) (ys : List (List Point)). y ∷ ys) (numbered_bare i f 1 r s)
    (ap (λ j. numbered_supports (suc i) (r + (j - min 2 (j - f))) files (map bare supports)) (length-map (with_rank 0) s) ∙ numbered_all_bare (suc i) (r + ranks_in f s) files supports)

bare_bare : (s : List Point) → bare (bare s) ≡ bare s
bare_bare s = map_map (with_rank 0) (with_rank 0) s

ranked_bare : (version : Version) (files : List ℕ) (supports : List (List Point)) → ranked_supports version files (map bare supports) ≡ ranked_supports version files supports
ranked_bare version1 files supports = map_map bare bare supports ∙ map_same (λ s. bare (bare s)) bare bare_bare supports
ranked_bare version2 files supports = numbered_all_bare 1 1 files supports

-- ---- and back
bare_choice : (t : Bool) (xs ys zs : List Point) → bare xs ≡ zs → bare ys ≡ zs → bare (if t then xs else ys) ≡ zs
bare_choice true xs ys zs e f = e
bare_choice false xs ys zs e f = f

bare_numbered : (i f c r : ℕ) (xs : List Point) → bare (numbered i f c r xs) ≡ bare xs
bare_numbered i f c r [] = refl
bare_numbered i f c r (x ∷ xs) =
    bare_choice (is_start_corner i f c) (with_rank 0 x ∷ numbered i f (suc c) r xs) (with_rank r x ∷ numbered i f (suc c) (suc r) xs) (bare (x ∷ xs))
    (ap (λ (ys : List Point). with_rank 0 x ∷ ys) (bare_numbered i f (suc c) r xs)) (ap (λ (ys : List Point). with_rank 0 x ∷ ys) (bare_numbered i f (suc c) (suc r) xs))

bare_all_numbered : (i r : ℕ) (files : List ℕ) (supports : List (List Point)) → map bare (numbered_supports i r files supports) ≡ map bare supports
bare_all_numbered i r files [] = refl
bare_all_numbered i r [] (s ∷ supports) = ap₂ (λ (y : List Point) (ys : List (List Point)). y ∷ ys) (bare_numbered i 0 1 r s) (bare_all_numbered (suc i) (r + ranks_in 0 s) [] supports)
bare_all_numbered i r (f ∷ files) (s ∷ supports) = ap₂ (λ (y : List Point) (ys : List (List Point)). y ∷ ys) (bare_numbered i f 1 r s) (bare_all_numbered (suc i) (r + ranks_in f s) files supports)

pub bare_ranked : (version : Version) (files : List ℕ) (supports : List (List Point)) → map bare (ranked_supports version files supports) ≡ map bare supports
bare_ranked version1 files supports = map_map bare bare supports ∙ map_same (λ s. bare (bare s)) bare bare_bare supports
bare_ranked version2 files supports = bare_all_numbered 1 1 files supports

-- the same points with or without ranks are ranked in the same way
pub same_ranked : (version : Version) (files : List ℕ) (xs ys : List (List Point)) → map bare xs ≡ map bare ys → ranked_supports version files xs ≡ ranked_supports version files ys
same_ranked version files xs ys e = sym (ranked_bare version files xs) ∙ ap (ranked_supports version files) e ∙ ranked_bare version files ys

-- ---- the first points
bare_first : (files : List ℕ) (supports : List (List Point)) → map bare (first_points files supports) ≡ first_points files (map bare supports)
bare_first [] supports = refl
bare_first (f ∷ files) [] = refl
bare_first (f ∷ files) (s ∷ supports) = ap₂ (λ (y : List Point) (ys : List (List Point)). y ∷ ys) (map_take (with_rank 0) f s) (bare_first files supports)

pub taken : (s : List FilePoint) (ys : List Point) → take (length s) (map resting s ++ ys) ≡ map resting s
taken [] [] = refl
taken [] (y ∷ ys) = refl
taken (x ∷ s) ys = ap (λ (zs : List Point). resting x ∷ zs) (taken s ys)

first_of_path : (i : ℕ) (supports : List (List FilePoint)) (starts : List (List ℤ)) → first_points (map length supports) (path_supports i supports starts) ≡ map (map resting) supports
first_of_path i [] starts = refl
first_of_path i (s ∷ supports) [] = ap₂ (λ (y : List Point) (ys : List (List Point)). y ∷ ys) (taken s (corners i s [])) (first_of_path (suc i) supports [])
first_of_path i (s ∷ supports) (z ∷ starts) = ap₂ (λ (y : List Point) (ys : List (List Point)). y ∷ ys) (taken s (corners i s z)) (first_of_path (suc i) supports starts)

-- without ranks the file points of a path are those of the file
path_first : (file : File) → map bare (first_points (map length file.supports) (path file).supports) ≡ map bare (map (map resting) file.supports)
path_first file =
    let files = map length file.supports in
    let plain = path_supports 1 file.supports (starts_of file) in
    bare_first files (ranked_supports file.version files plain) ∙ ap (first_points files) (bare_ranked file.version files plain)
    ∙ sym (bare_first files plain) ∙ ap (map bare) (first_of_path 1 file.supports (starts_of file))

-- the file points of the path alone are the problem of the file's points
pub path_file_points : (file : File) → file_points (path file) ≡ plain_problem file
path_file_points file =
    let files = map length file.supports in
    ap (λ (ss : List (List Point)). record { version = file.version; dimension = file.dimension; files = files; supports = ss })
    (same_ranked file.version files (first_points files (path file).supports) (map (map resting) file.supports) (path_first file))

-- ---- file points as a file has them
held_bare : (supports : List (List Point)) → map (map held) (map bare supports) ≡ map (map held) supports
held_bare supports = map_map (map held) bare supports ∙ map_same (λ s. map held (bare s)) (map held) (λ s. map_map held (with_rank 0) s) supports

held_resting : (supports : List (List FilePoint)) → map (map held) (map (map resting) supports) ≡ supports
held_resting supports = map_map (map held) (map resting) supports ∙ same supports
  where
    one : (s : List FilePoint) → map held (map resting s) ≡ s
    one [] = refl
    one (x ∷ s) = ap (λ (ys : List FilePoint). x ∷ ys) (one s)

    same : (supports : List (List FilePoint)) → map (λ s. map held (map resting s)) supports ≡ supports
    same [] = refl
    same (s ∷ supports) = ap₂ (λ (y : List FilePoint) (ys : List (List FilePoint)). y ∷ ys) (one s) (same supports)

pub path_held : (file : File) → map (map held) (first_points (map length file.supports) (path file).supports) ≡ file.supports
path_held file =
    let first = first_points (map length file.supports) (path file).supports in
    sym (held_bare first) ∙ ap (map (map held)) (path_first file) ∙ held_bare (map (map resting) file.supports) ∙ held_resting file.supports
