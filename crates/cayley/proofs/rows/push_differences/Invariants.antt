use Rattle.std.proofs.Common.{◌≡◌, ◌++◌, take}
use Rattle.int_vectors.specs.Vectors.{sub}
use Rattle.cayley.proofs.rows.push_differences.Given as goal

abbrev pub invariant-loop-k : goal.invariant-loop-k
invariant-loop-k l = l.row.items ≡ l.initial.row.items ++ sub (take l.k l.to) (take l.k l.from)
