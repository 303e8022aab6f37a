-- The whole working of a cell.
use Rattle.std.specs.Prelude.{ℕ, List, ℤ}
use Rattle.reduced_rows.specs.CellRefusals.{FitsBeyond}
use Rattle.cayley.specs.Problems.{Problem}
use Rattle.cayley.specs.Cells.{Cell}
use Rattle.cayley.specs.Dependencies.{IsFurtherAt}
use Rattle.cayley.specs.Rows.{edge_rows}
use Rattle.inner_normal.specs.Coefficients.{FitsCircuit}
use Rattle.cone_walls.specs.Workings.{FitsRest}

-- the circuits of all further points fit, in both versions
abbrev pub FitAllCircuits : Problem → Cell → List (List ℤ) → Type 0
FitAllCircuits p cell made = (j c : ℕ) → IsFurtherAt p cell j c → FitsCircuit p cell j c made

-- the elimination of the cell's rows fits, and where it doesn't end with a kernel, normal, wall lines and all circuits fit too
abbrev pub FitsWorking : Problem → Cell → Type 0
FitsWorking p cell = FitsBeyond p.dimension (edge_rows p cell) (λ made. FitsRest p cell made × FitAllCircuits p cell made)
