use Rattle.std.proofs.Common.{◌≡◌, ◌↔◌, ◌+◌, ◌++◌, drop}
use Rattle.std.specs.Prelude.{All}
use Rattle.cayley.specs.Cells.{EachPair}
use Rattle.crossing.specs.Lines.{FitsLine}
use Rattle.cone_walls.specs.Listed.{wall_lines}
use Rattle.cone_walls.specs.Workings.{FitsSupport, FitsWalls}
use Rattle.cone_walls.proofs.lines.lines_within.Given as goal

abbrev pub invariant-loop-i : goal.invariant-loop-i
invariant-loop-i l = record {
  made : l.lines.items ++ wall_lines l.normal (l.i + 1) (drop l.i l.problem.supports) (drop l.i l.cell) ≡ wall_lines l.normal 1 l.problem.supports l.cell;
  fits : FitsWalls l.problem l.cell l.normal ↔ EachPair (drop l.i l.problem.supports) (drop l.i l.cell) (FitsSupport l.normal);
  fit : All FitsLine l.lines.items;
}
