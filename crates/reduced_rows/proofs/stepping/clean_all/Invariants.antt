use Rattle.std.proofs.Common.{◌≡◌, take, drop, map, ◌++◌, length}
use Rattle.int_vectors.specs.RowSteps.{cleaned}
use Rattle.reduced_rows.specs.Steps.{FitsCleanedAll}
use Rattle.reduced_rows.proofs.stepping.clean_all.Given as goal

abbrev pub invariant-loop-i : goal.invariant-loop-i
invariant-loop-i l = record {
  done : l.rows.items ≡ map (cleaned l.k l.by) (take l.i l.fn.rows.items) ++ drop l.i l.fn.rows.items;
  fits : FitsCleanedAll l.k l.by (take l.i l.fn.rows.items);
  count : l.i-end ≡ length l.fn.rows.items;
}
