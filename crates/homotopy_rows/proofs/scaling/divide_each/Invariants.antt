use Rattle.std.proofs.Common.{◌≡◌, take, drop, map, ◌++◌, length}
use Rattle.int_vectors.specs.Contents.{divided}
use Rattle.homotopy_rows.proofs.scaling.divide_each.Given as goal

abbrev pub invariant-loop-k : goal.invariant-loop-k
invariant-loop-k l = record {
  done : l.rows.items ≡ map (divided l.g) (take l.k l.fn.rows.items) ++ drop l.k l.fn.rows.items;
  count : l.k-end ≡ length l.fn.rows.items;
}
