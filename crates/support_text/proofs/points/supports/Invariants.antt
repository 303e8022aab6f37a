use Rattle.std.proofs.Common.{◌≡◌, ◌-◌, [], map}
use Rattle.support_text.specs.Stored.{support_view}
use Rattle.support_text.specs.Faults.{series}
use Rattle.support_text.specs.ProblemText.{support_at}
use Rattle.support_text.proofs.points.supports.Given as goal

abbrev pub invariant-loop-turn : goal.invariant-loop-turn
invariant-loop-turn l = record {
  so_far : series (l.n - l._turn) (support_at l.n l.lines.end_line) (map support_view l.supports.items) l.lines.rows ≡ series l.n (support_at l.n l.fn.lines.end_line) [] l.fn.lines.rows;
  end_line : l.lines.end_line ≡ l.fn.lines.end_line;
}
