use Rattle.std.proofs.Common.{◌≡◌, ◌-◌, ◌*◌, ◌++◌, length}
use Rattle.int_vectors.specs.Fits.{AllFit}
use Rattle.path_trace.specs.Matrices.{column}
use Rattle.log_check.proofs.columns.column_at.Given as goal

abbrev pub invariant-loop-row : goal.invariant-loop-row
invariant-loop-row l = record {
  entries : l.entries.items ++ column l.n l.k (l.n - l._row) l.rest ≡ column l.n l.k l.n l.matrix;
  long : length l.rest ≡ (l.n - l._row) * l.n;
  fits : AllFit l.rest;
  whole : AllFit l.entries.items;
}
