use Rattle.std.proofs.Common.{◌↔◌, ◌<◌, ℕ, length}
use Rattle.std.specs.Prelude.{IsTrue}
use Rattle.path_trace.specs.Inverses.{pair_difference}
use Rattle.log_check.specs.Products.{AreRow, FitsRow}
use Rattle.log_check.proofs.products.are_inverse.Given as goal

abbrev pub invariant-loop-i : goal.invariant-loop-i
invariant-loop-i l = record {
  fits : (i : ℕ) → i < l.i → FitsRow (pair_difference l.problem l.cell i) l.columns (length l.columns);
  same : IsTrue l.same ↔ ((i : ℕ) → i < l.i → AreRow l.fn.g i (pair_difference l.problem l.cell i) l.columns (length l.columns));
}
