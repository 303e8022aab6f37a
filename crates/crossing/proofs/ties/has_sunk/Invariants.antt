use Rattle.std.proofs.Common.{ℕ, ◌<◌}
use Rattle.crossing.specs.Ends.{IsSunk}
use Rattle.crossing.specs.Leading.{nth}
use Rattle.crossing.proofs.ties.has_sunk.Given as goal

abbrev pub invariant-loop-line : goal.invariant-loop-line
invariant-loop-line l = (k : ℕ) → k < l.line-index → ¬ (IsSunk (nth l.lines k))
