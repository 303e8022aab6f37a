use Rattle.std.proofs.Common.{◌≡◌, ◌-◌, ◌++◌}
use Rattle.path_trace.specs.Matrices.{columns, columns_from}
use Rattle.log_check.proofs.columns.columns_of.Given as goal

abbrev pub invariant-loop-k : goal.invariant-loop-k
invariant-loop-k l = l.made.items ++ columns_from l.n l.k (l.n - l.k) l.matrix ≡ columns l.n l.matrix
