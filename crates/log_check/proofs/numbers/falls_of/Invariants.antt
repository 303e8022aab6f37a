use Rattle.std.proofs.Common.{◌≡◌, take}
use Rattle.int_vectors.specs.Fits.{AllFit}
use Rattle.carried_inverse.specs.Sums.{base_falls, speed_falls}
use Rattle.log_check.proofs.numbers.falls_of.Given as goal

abbrev pub invariant-loop-i : goal.invariant-loop-i
invariant-loop-i l = record {
  bases : l.bases.items ≡ take l.i (base_falls l.problem.supports l.cell);
  speeds : l.speeds.items ≡ take l.i (speed_falls l.problem.supports l.cell);
  bases_fit : AllFit l.bases.items;
  speeds_fit : AllFit l.speeds.items;
}
