use Rattle.cone_walls.specs.Rests.{RestUpTo}
use Rattle.cone_walls.proofs.rests.is_resting.Given as goal

abbrev pub invariant-loop-k : goal.invariant-loop-k
invariant-loop-k l = RestUpTo l.problem l.cell l.k
