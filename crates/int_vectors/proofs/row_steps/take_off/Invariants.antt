use Rattle.std.proofs.Common.{◌≡◌, take, drop, ◌++◌, length}
use Rattle.int_vectors.specs.RowSteps.{eliminated, FitsEliminated}
use Rattle.int_vectors.specs.Fits.{AllFit}
use Rattle.int_vectors.proofs.row_steps.take_off.Given as goal

abbrev pub invariant-loop-i : goal.invariant-loop-i
invariant-loop-i l = record {
  made : l.entries ≡ eliminated l.fn.pivot l.fn.factor (take l.i l.fn.entries) (take l.i l.by) ++ drop l.i l.fn.entries;
  fitted : FitsEliminated l.fn.pivot l.fn.factor (take l.i l.fn.entries) (take l.i l.by);
  all : AllFit l.entries;
  count : l.i-end ≡ length l.fn.entries;
}
