use Rattle.std.proofs.Common.{ℕ, ◌<◌}
use Rattle.crossing.specs.Lines.{IsFlat}
use Rattle.crossing.specs.Leading.{nth}
use Rattle.crossing.proofs.exit.first_flat.Given as goal

abbrev pub invariant-loop-index : goal.invariant-loop-index
invariant-loop-index l = (k : ℕ) → k < l.index → ¬ (IsFlat (nth l.lines k))
