use Rattle.std.proofs.Common.{◌≡◌, ◌++◌, take}
use Rattle.int_vectors.specs.Fits.{AllFit}
use Rattle.int_vectors.specs.Vectors.{entries_at}
use Rattle.path_tracer.proofs.rows.push_row.Given as goal

abbrev pub invariant-loop-column : goal.invariant-loop-column
invariant-loop-column l = record {
  row : l.entries.items ≡ l.initial.entries.items ++ entries_at l.place (take l.column-index l.columns);
  fits : AllFit l.initial.entries.items → AllFit l.entries.items;
}
