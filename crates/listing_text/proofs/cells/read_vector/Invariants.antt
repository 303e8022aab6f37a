use Rattle.std.proofs.Common.{◌≡◌, ◌-◌, []}
use Rattle.int_vectors.specs.Fits.{AllFit}
use Rattle.support_text.specs.Faults.{series}
use Rattle.support_text.specs.Words.{words}
use Rattle.listing_text.specs.ListingText.{normal_entry}
use Rattle.listing_text.proofs.cells.read_vector.Given as goal

abbrev pub invariant-loop-turn : goal.invariant-loop-turn
invariant-loop-turn l = record {
  so_far : series (l.n - l._turn) (normal_entry l.line.number) l.entries.items (words l.line) ≡ series l.n (normal_entry l.fn.line.number) [] (words l.fn.line);
  number : l.line.number ≡ l.fn.line.number;
  fits : AllFit l.entries.items;
}
