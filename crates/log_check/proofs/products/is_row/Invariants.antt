use Rattle.std.proofs.Common.{◌↔◌}
use Rattle.std.specs.Prelude.{IsTrue}
use Rattle.int_vectors.specs.Vectors.{sub}
use Rattle.log_check.specs.Products.{AreRow, FitsRow}
use Rattle.log_check.proofs.products.is_row.Given as goal

abbrev pub invariant-loop-k : goal.invariant-loop-k
invariant-loop-k l = record {
  fits : FitsRow (sub l.b l.a) l.columns l.k;
  same : IsTrue l.same ↔ AreRow l.fn.g l.fn.i (sub l.b l.a) l.columns l.k;
}
