use Rattle.std.proofs.Common.{◌≡◌, take, drop, ◌++◌, length}
use Rattle.int_vectors.specs.RowSteps.{eliminated}
use Rattle.int_vectors.proofs.narrow.take_off_short.Given as goal

abbrev pub invariant-loop-i : goal.invariant-loop-i
invariant-loop-i l = record {
  made : l.entries ≡ eliminated l.fn.pivot l.fn.factor (take l.i l.fn.entries) (take l.i l.by) ++ drop l.i l.fn.entries;
  count : l.i-end ≡ length l.fn.entries;
}
