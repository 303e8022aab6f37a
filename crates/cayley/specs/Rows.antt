-- The rows of a cell, on which the elimination works.
use Rattle.std.specs.Prelude.{ℕ, suc, List, [], ◌∷◌, ◌++◌, ℤ, pos, ◌-ℤ◌, slice_set, replicate}
use Rattle.int_vectors.specs.Vectors.{sub}
use Rattle.cayley.specs.Cells.{Cell}
use Rattle.cayley.specs.Problems.{Point, Problem, point_at}

-- n numbers that are 0 but for a 1 in place i, which counts from 0
abbrev pub unit_row : ℕ → ℕ → List ℤ
unit_row n i = slice_set (replicate n (pos 0)) i (pos 1)

-- the differences of two points' coordinates, bases and speeds, and n numbers that are 0 but for a 1 in place i
abbrev pub edge_row : ℕ → ℕ → Point → Point → List ℤ
edge_row n i a b = sub b.coordinates a.coordinates ++ ((b.base -ℤ a.base) ∷ (b.speed -ℤ a.speed) ∷ unit_row n i)

-- the rows of the pairs of supports that count from i
abbrev pub edge_rows_from : ℕ → ℕ → List (List Point) → Cell → List (List ℤ)
edge_rows_from n i [] cell = []
edge_rows_from n i (s ∷ supports) [] = []
edge_rows_from n i (s ∷ supports) (pair ∷ cell) = edge_row n i (point_at s pair.0) (point_at s pair.1) ∷ edge_rows_from n (suc i) supports cell

-- one row for each pair of the cell
abbrev pub edge_rows : Problem → Cell → List (List ℤ)
edge_rows p cell = edge_rows_from p.dimension 0 p.supports cell

abbrev pub edges : List (List Point) → Cell → List (List ℤ)
edges [] cell = []
edges (s ∷ supports) [] = []
edges (s ∷ supports) (pair ∷ cell) = sub (point_at s pair.1).coordinates (point_at s pair.0).coordinates ∷ edges supports cell
