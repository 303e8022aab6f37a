use Rattle.std.proofs.Common.{◌≡◌, ◌-◌, []}
use Rattle.support_text.specs.Faults.{series}
use Rattle.support_text.specs.ProblemText.{point_at}
use Rattle.support_text.proofs.points.points.Given as goal

abbrev pub invariant-loop-turn : goal.invariant-loop-turn
invariant-loop-turn l = record {
  so_far : series (l.count - l._turn) (point_at l.n l.lines.end_line) l.points l.lines.rows ≡ series l.count (point_at l.n l.fn.lines.end_line) [] l.fn.lines.rows;
  end_line : l.lines.end_line ≡ l.fn.lines.end_line;
}
