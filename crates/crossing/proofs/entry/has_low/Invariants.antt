use Rattle.std.proofs.Common.{ℕ, ◌<◌}
use Rattle.crossing.specs.Found.{IsLow}
use Rattle.crossing.specs.Leading.{nth}
use Rattle.crossing.proofs.entry.has_low.Given as goal

abbrev pub invariant-loop-line : goal.invariant-loop-line
invariant-loop-line l = (k : ℕ) → k < l.line-index → ¬ (IsLow (nth l.lines k))
