-- The common denominator of a cell is the least one.
use Rattle.std.specs.Prelude.{ℕ, ◌+◌, ◌<◌, List, ℤ}
use Prim.Native.Nat.{◌∣◌}
use Rattle.reduced_rows.specs.CellRefusals.{IsEliminated}
use Rattle.reduced_rows.specs.Least.{MakeWhole}
use Rattle.cayley.specs.Problems.{Problem, IsProblem}
use Rattle.cayley.specs.Cells.{Cell, IsOf}
use Rattle.cayley.specs.Rows.{edge_rows}
use Rattle.inner_normal.specs.Workings.{denominator}

-- it divides each number m, at least 1, for which m times the inverse of the differences is whole; the inverse stands in the columns from n + 2 on
abbrev pub LeastDenominator : Type 0
LeastDenominator = (p : Problem) (cell : Cell) (made : List (List ℤ)) (m : ℕ) → IsProblem p → IsOf p cell → IsEliminated p.dimension (edge_rows p cell) made
    → 0 < m → MakeWhole m (p.dimension + 2) 0 made → denominator made ∣ m
