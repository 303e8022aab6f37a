use Rattle.std.proofs.Common.{◌≡◌, ◌+◌, ◌++◌, List, drop}
use Rattle.cayley.specs.Problems.{point_at}
use Rattle.cayley.specs.Valid.{support_at}
use Rattle.crossing.specs.declared.line.WallLine.{WallLine}
use Rattle.cone_walls.specs.Fronts.{AreFalls, IsFront}
use Rattle.cone_walls.specs.Listed.{lines_from, support_lines}
use Rattle.cone_walls.proofs.passing.passed_all.Given as goal

abbrev pub invariant-loop-index : goal.invariant-loop-index
invariant-loop-index l = record {
  falls : AreFalls l.front;
  front : (lines : List WallLine) → IsFront lines l.fn.front → (made : List WallLine) × IsFront made l.front
      × (made ++ lines_from l.normal l.i (point_at (support_at l.problem l.i) l.pair.0) l.pair.0 l.pair.1 (l.index + 1) (drop l.index (support_at l.problem l.i))
      ≡ lines ++ support_lines l.normal l.i (support_at l.problem l.i) l.pair.0 l.pair.1);
}
