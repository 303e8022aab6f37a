use Rattle.std.proofs.Common.{◌≡◌, ◌-◌, [], ◌∷◌, map}
use Rattle.support_text.specs.Stored.{heights_view}
use Rattle.support_text.specs.Faults.{series}
use Rattle.support_text.specs.ProblemText.{start_at}
use Rattle.support_text.proofs.endings.starts.Given as goal

abbrev pub invariant-loop-turn : goal.invariant-loop-turn
invariant-loop-turn l = record {
  so_far : series (l.n - l._turn) (start_at l.n l.lines.end_line) (map heights_view l.starts.items) l.lines.rows ≡ series (l.n - 1) (start_at l.n l.fn.lines.end_line) (l.fn.first.items ∷ []) l.fn.lines.rows;
  end_line : l.lines.end_line ≡ l.fn.lines.end_line;
}
