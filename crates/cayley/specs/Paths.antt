-- The path of a file: its file points rest, and the heights of a simplex of corners round each support rise with the time.
use Rattle.std.specs.Prelude.{ℕ, zero, suc, ◌+◌, ◌*◌, ◌%◌, ◌-◌, ◌==◌, if◌then◌else◌, ◌++◌, List, [], ◌∷◌, length, map, ℤ, pos, ◌+ℤ◌, Option, None, Some}
use Rattle.std.specs.Int.{int_min, int_max}
use Rattle.int_vectors.specs.Vectors.{add, sub, at_place}
use Rattle.cayley.specs.Problems.{Point, Problem, ranked_supports}
use Rattle.cayley.specs.Cells.{Cell}
use Rattle.cayley.specs.Files.{FilePoint, File, resting}

-- the lesser entry at each place
abbrev pub lower : List ℤ → List ℤ → List ℤ
lower [] ys = []
lower (x ∷ xs) [] = []
lower (x ∷ xs) (y ∷ ys) = int_min x y ∷ lower xs ys

-- the least coordinate of the points at each place
abbrev pub least_coordinates : List FilePoint → List ℤ
least_coordinates [] = []
least_coordinates (x ∷ []) = x.coordinates
least_coordinates (x ∷ y ∷ points) = lower x.coordinates (least_coordinates (y ∷ points))

abbrev pub sum_of : List ℤ → ℤ
sum_of [] = pos 0
sum_of (x ∷ xs) = x +ℤ sum_of xs

-- the greater of 1 and the greatest sum of a point's coordinates less m
abbrev pub simplex_edge : List ℤ → List FilePoint → ℤ
simplex_edge m [] = pos 1
simplex_edge m (x ∷ points) = int_max (sum_of (sub x.coordinates m)) (simplex_edge m points)

-- a corner has its start height at time 0 and rises with the time
abbrev pub corner : List ℤ → ℤ → Point
corner coordinates start = record { coordinates = coordinates; base = start; speed = pos 1; rank = 0 }

-- the corners m + d e_k, m + d e_(k+1), .. with the start heights that are given, where k counts from 0
abbrev pub later_corners : List ℤ → ℤ → ℕ → List ℤ → List Point
later_corners m d k [] = []
later_corners m d k (start ∷ starts) = corner (add m (at_place k d)) start ∷ later_corners m d (suc k) starts

-- the corners m + d e_k, .. of which the one of the own direction comes after `own` others and has the start height 0
abbrev pub direction_corners : List ℤ → ℤ → ℕ → ℕ → List ℤ → List Point
direction_corners m d zero k starts = corner (add m (at_place k d)) (pos 0) ∷ later_corners m d (suc k) starts
direction_corners m d (suc own) k [] = []
direction_corners m d (suc own) k (start ∷ starts) = corner (add m (at_place k d)) start ∷ direction_corners m d own (suc k) starts

-- the corners of support i: the least coordinates m, then m + d e_1, .., m + d e_n
abbrev pub corners : ℕ → List FilePoint → List ℤ → List Point
corners i points starts =
    corner (least_coordinates points) (pos 0) ∷ direction_corners (least_coordinates points) (simplex_edge (least_coordinates points) points) (i - 1) 0 starts

-- the start height of support i and direction k where the file gives none
abbrev pub default_start : ℕ → ℕ → ℤ
default_start i k = pos (100 + ((37 * i * i + 11 * k * k * k + 53 * i * k) % 509))

-- those of support i from direction k on, but for its own
abbrev pub default_starts_from : ℕ → ℕ → ℕ → List ℤ
default_starts_from i k zero = []
default_starts_from i k (suc left) =
    if k == i then default_starts_from i (suc k) left else default_start i k ∷ default_starts_from i (suc k) left

abbrev pub default_starts : ℕ → ℕ → ℕ → List (List ℤ)
default_starts n i zero = []
default_starts n i (suc left) = default_starts_from i 1 n ∷ default_starts n (suc i) left

-- the start heights of a file, or the default ones
abbrev pub starts_of : File → List (List ℤ)
starts_of file = given file.starts file.dimension
  where
    given : Option (List (List ℤ)) → ℕ → List (List ℤ)
    given None n = default_starts n 1 n
    given (Some starts) n = starts

abbrev pub path_supports : ℕ → List (List FilePoint) → List (List ℤ) → List (List Point)
path_supports i [] starts = []
path_supports i (s ∷ supports) [] = (map resting s ++ corners i s []) ∷ path_supports (suc i) supports []
path_supports i (s ∷ supports) (start ∷ starts) = (map resting s ++ corners i s start) ∷ path_supports (suc i) supports starts

-- the path of a file
abbrev pub path : File → Problem
path file = record {
  version = file.version;
  dimension = file.dimension;
  files = map length file.supports;
  supports = ranked_supports file.version (map length file.supports) (path_supports 1 file.supports (starts_of file));
}

-- in support i, counted from i on, the first corner and that of direction i
abbrev pub start_pairs : ℕ → List ℕ → Cell
start_pairs i [] = []
start_pairs i (f ∷ files) = (f + 1, f + 1 + i) ∷ start_pairs (suc i) files

-- the start cell of a path
abbrev pub start_cell : Problem → Cell
start_cell p = start_pairs 1 p.files
