use Rattle.std.proofs.Common.{◌≡◌, take, length}
use Rattle.int_vectors.specs.RowSteps.{eliminated}
use Rattle.int_vectors.specs.Vectors.{scale}
use Rattle.carried_inverse.proofs.entries.combine_divided.Given as goal

abbrev pub invariant-loop-i : goal.invariant-loop-i
invariant-loop-i l = record {
  done : eliminated l.pivot l.factor (take l.i l.entries) (take l.i l.by) ≡ scale l.g (take l.i l.made);
  long : length l.made ≡ length l.entries;
}
