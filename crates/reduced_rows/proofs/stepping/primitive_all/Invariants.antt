use Rattle.std.proofs.Common.{◌≡◌, take, drop, map, ◌++◌, length}
use Rattle.int_vectors.specs.Contents.{primitive}
use Rattle.reduced_rows.proofs.stepping.primitive_all.Given as goal

abbrev pub invariant-loop-i : goal.invariant-loop-i
invariant-loop-i l = record {
  done : l.rows.items ≡ map primitive (take l.i l.fn.rows.items) ++ drop l.i l.fn.rows.items;
  count : l.i-end ≡ length l.fn.rows.items;
}
