use Rattle.std.proofs.Common.{arith}
use Rattle.flip_rule.proofs.Pairs.{as_they_stand, turned}
use Rattle.flip_rule.proofs.flips.sorted.Goals as goal

pub returns-then-one-other-clause-same : goal.returns-then-one-other-clause-same
returns-then-one-other-clause-same c = as_they_stand c.args.one c.args.other c.if-one-other.true

pub returns-else-one-other-clause-same : goal.returns-else-one-other-clause-same
returns-else-one-other-clause-same c = turned c.args.one c.args.other (let n = c.if-one-other.false in omega (arith, n))
