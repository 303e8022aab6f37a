use Rattle.std.proofs.Common.{◌≡◌, ◌-◌, [], length}
use Rattle.cayley.specs.Cells.{IsCell}
use Rattle.support_text.specs.Faults.{series}
use Rattle.support_text.specs.Words.{words}
use Rattle.listing_text.specs.ListingText.{pair_at}
use Rattle.listing_text.proofs.cells.pairs.Given as goal

abbrev pub invariant-loop-place : goal.invariant-loop-place
invariant-loop-place l = record {
  so_far : series (length l.counts - l.place) (pair_at l.counts l.line.number) l.pairs.items (words l.line) ≡ series (length l.counts) (pair_at l.counts l.fn.line.number) [] (words l.fn.line);
  number : l.line.number ≡ l.fn.line.number;
  size : length l.pairs.items ≡ l.place;
  rise : IsCell l.pairs.items;
}
