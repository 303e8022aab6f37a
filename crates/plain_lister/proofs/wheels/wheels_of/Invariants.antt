use Rattle.std.proofs.Common.{take}
use Rattle.plain_lister.specs.Order.{firsts}
use Rattle.plain_lister.specs.Wheels.{Show}
use Rattle.plain_lister.proofs.wheels.wheels_of.Given as goal

abbrev pub invariant-loop-count : goal.invariant-loop-count
invariant-loop-count l = Show (take l.count-index l.counts) l.wheels.items (firsts (take l.count-index l.counts))
