use Rattle.std.proofs.Common.{◌≡◌, ℕ, ◌+◌, ◌≤◌, ◌++◌, drop}
use Rattle.std.specs.Prelude.{All}
use Rattle.cayley.specs.Problems.{point_at}
use Rattle.cayley.specs.Valid.{support_at}
use Rattle.crossing.specs.Lines.{FitsLine}
use Rattle.cone_walls.specs.Listed.{lines_from, support_lines}
use Rattle.cone_walls.specs.Workings.{FitsPoint}
use Rattle.cone_walls.proofs.lines.push_narrow_lines.Given as goal

abbrev pub invariant-loop-index : goal.invariant-loop-index
invariant-loop-index l = record {
  made : l.lines.items ++ lines_from l.normal l.i (point_at (support_at l.problem l.i) l.pair.0) l.pair.0 l.pair.1 (l.index + 1) (drop l.index (support_at l.problem l.i))
      ≡ l.fn.lines.items ++ support_lines l.normal l.i (support_at l.problem l.i) l.pair.0 l.pair.1;
  fits : (c : ℕ) → c ≤ l.index → FitsPoint l.normal (support_at l.problem l.i) l.pair.0 l.pair.1 c;
  fit : All FitsLine l.lines.items;
}
