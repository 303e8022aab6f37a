-- What the inner functions make; no public clause cites this.
use Rattle.std.specs.Prelude.{◌≡◌, List, map, All, ℤ}
use Rattle.int_vectors.specs.Vectors.{Each}
use Rattle.reduced_rows.specs.CellRefusals.{IsEliminated}
use Rattle.cayley.specs.Problems.{Problem, HasSamePoints}
use Rattle.cayley.specs.Cells.{Cell}
use Rattle.cayley.specs.Rows.{edge_rows}
use Rattle.crossing.specs.declared.line.WallLine.{WallLine}
use Rattle.crossing.specs.Lines.{FitsLine}
use Rattle.inner_normal.specs.declared.moving.MovingNormal.{MovingNormal}
use Rattle.inner_normal.specs.MovingNormals.{IsMovingNormal}
use Rattle.inner_normal.specs.Workings.{IsNormalFrom}
use Rattle.cone_walls.specs.Listed.{wall_lines, coarse}
use Rattle.cone_walls.specs.Fines.{HasFine}
use Rattle.cone_walls.specs.Workings.{FitsRest}

-- the cell's reduced rows, its normal and its lines, all of which fit
pub record IsMade (p : Problem) (cell : Cell) (reduced : List (List ℤ)) (normal : MovingNormal) (lines : List WallLine) : Type 0 where
  pub answer : IsEliminated p.dimension (edge_rows p cell) reduced
  pub from : IsNormalFrom reduced normal
  pub moving : (q : Problem) → HasSamePoints q p → IsMovingNormal q cell normal
  pub made : map coarse lines ≡ wall_lines normal 1 p.supports cell
  pub fine : Each lines (HasFine p cell reduced)
  pub rest : FitsRest p cell reduced
  pub fit : All FitsLine lines
