use Rattle.std.proofs.Common.{◌≡◌, ◌-◌, [], map}
use Rattle.poly_text.specs.SystemText.{support_view}
use Rattle.support_text.specs.Faults.{series}
use Rattle.poly_text.specs.SystemText.{polynomial_at}
use Rattle.poly_text.proofs.system.polynomials.Given as goal

abbrev pub invariant-loop-turn : goal.invariant-loop-turn
invariant-loop-turn l = record {
  so_far : series (l.n - l._turn) (polynomial_at l.n l.lines.end_line) (map support_view l.supports.items) l.lines.rows ≡ series l.n (polynomial_at l.n l.fn.lines.end_line) [] l.fn.lines.rows;
  end_line : l.lines.end_line ≡ l.fn.lines.end_line;
}
