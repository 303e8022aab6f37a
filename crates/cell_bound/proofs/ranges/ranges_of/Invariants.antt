use Rattle.std.proofs.Common.{◌-◌, drop}
use Rattle.cell_bound.specs.Ranges.{AreBounds}
use Rattle.cell_bound.proofs.ranges.ranges_of.Given as goal

abbrev pub invariant-loop-k : goal.invariant-loop-k
invariant-loop-k l = AreBounds (drop (l.problem.dimension - l.k) l.problem.supports) l.front l.further
