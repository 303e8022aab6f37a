use Rattle.crossing.specs.Leading.{IsLed}
use Rattle.crossing.proofs.leaders.leaders_of.Given as goal

abbrev pub invariant-loop-index : goal.invariant-loop-index
invariant-loop-index l = IsLed l.way l.lines l.index l.leaders
