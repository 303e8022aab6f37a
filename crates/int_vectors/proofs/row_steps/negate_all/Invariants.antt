use Rattle.std.proofs.Common.{◌≡◌, take, drop, map, ◌++◌, neg_ℤ}
use Rattle.int_vectors.specs.Fits.{AllFit}
use Rattle.int_vectors.proofs.row_steps.negate_all.Given as goal

abbrev pub invariant-loop-x : goal.invariant-loop-x
invariant-loop-x l = record {
  done : l.entries ≡ map neg_ℤ (take l.x-index l.fn.entries) ++ drop l.x-index l.fn.entries;
  fits : AllFit l.entries;
}
