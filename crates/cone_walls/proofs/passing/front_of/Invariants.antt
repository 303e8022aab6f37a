use Rattle.std.proofs.Common.{◌≡◌, ◌+◌, ◌++◌, List, drop}
use Rattle.crossing.specs.declared.line.WallLine.{WallLine}
use Rattle.cone_walls.specs.Fronts.{AreFalls, IsFront}
use Rattle.cone_walls.specs.Listed.{wall_lines}
use Rattle.cone_walls.proofs.passing.front_of.Given as goal

abbrev pub invariant-loop-i : goal.invariant-loop-i
invariant-loop-i l = record {
  falls : AreFalls l.leading;
  front : (made : List WallLine) × IsFront made l.leading
      × (made ++ wall_lines l.normal (l.i + 1) (drop l.i l.problem.supports) (drop l.i l.cell) ≡ wall_lines l.normal 1 l.problem.supports l.cell);
}
