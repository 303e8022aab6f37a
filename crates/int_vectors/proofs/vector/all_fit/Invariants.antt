use Rattle.std.proofs.Common.{◌↔◌, drop}
use Rattle.int_vectors.specs.Fits.{AllFit}
use Rattle.int_vectors.proofs.vector.all_fit.Given as goal

abbrev pub invariant-loop-x : goal.invariant-loop-x
invariant-loop-x l = AllFit l.entries ↔ AllFit (drop l.x-index l.entries)
