use Rattle.std.proofs.Common.{◌≡◌, ◌↔◌, ◌-◌, ◌*◌, ◌++◌, length}
use Rattle.int_vectors.specs.Fits.{AllFit}
use Rattle.log_check.specs.Numbers.{row_products, FitsRows}
use Rattle.log_check.proofs.numbers.row_sums.Given as goal

abbrev pub invariant-loop-row : goal.invariant-loop-row
invariant-loop-row l = record {
  sums : l.sums.items ++ row_products l.fn.n (l.fn.n - l._row) l.rest l.falls ≡ row_products l.fn.n l.fn.n l.matrix l.falls;
  fits : FitsRows l.fn.n l.fn.n l.matrix l.falls ↔ FitsRows l.fn.n (l.fn.n - l._row) l.rest l.falls;
  long : length l.rest ≡ (l.fn.n - l._row) * l.fn.n;
  whole : AllFit l.sums.items;
}
