use Rattle.std.proofs.Common.{◌≡◌}
use Rattle.int_vectors.specs.Fits.{AllFit}
use Rattle.path_tracer.specs.Rows.{rows_of}
use Rattle.path_tracer.proofs.rows.by_rows.Given as goal

abbrev pub invariant-loop-place : goal.invariant-loop-place
invariant-loop-place l = record {
  rows : l.entries.items ≡ rows_of l.place 0 l.columns;
  fits : AllFit l.entries.items;
}
