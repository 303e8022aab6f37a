use Rattle.std.proofs.Common.{◌≡◌, ◌+◌, length, unsigned_abs}
use Rattle.inner_normal.specs.Inverses.{scaled_columns, FitsColumns}
use Rattle.path_tracer.proofs.columns.columns_of.Given as goal

abbrev pub invariant-loop-i : goal.invariant-loop-i
invariant-loop-i l = record {
  columns : l.made.items ≡ scaled_columns l.i (length l.fn.reduced + 2) (unsigned_abs l.fn.den) l.fn.reduced;
  fits : FitsColumns l.i (length l.fn.reduced + 2) (unsigned_abs l.fn.den) l.fn.reduced;
}
