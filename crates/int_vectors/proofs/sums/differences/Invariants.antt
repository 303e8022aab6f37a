use Rattle.std.proofs.Common.{◌≡◌, take}
use Rattle.int_vectors.specs.Fits.{AllFit}
use Rattle.int_vectors.specs.Vectors.{sub}
use Rattle.int_vectors.proofs.sums.differences.Given as goal

abbrev pub invariant-loop-i : goal.invariant-loop-i
invariant-loop-i l = record {
  made : l.made.items ≡ sub (take l.i l.a) (take l.i l.b);
  fits : AllFit l.made.items;
}
