use Rattle.std.proofs.Common.{◌≡◌, ◌-◌, []}
use Rattle.support_text.specs.Faults.{series}
use Rattle.listing_text.specs.ListingText.{cell_at}
use Rattle.listing_text.proofs.cells.cell_lines.Given as goal

abbrev pub invariant-loop-turn : goal.invariant-loop-turn
invariant-loop-turn l = record {
  so_far : series (l.count - l._turn) (cell_at l.counts l.lines.end_line) l.cells.items l.lines.rows ≡ series l.count (cell_at l.counts l.fn.lines.end_line) [] l.fn.lines.rows;
  end_line : l.lines.end_line ≡ l.fn.lines.end_line;
}
