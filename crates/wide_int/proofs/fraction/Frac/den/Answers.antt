use Rattle.std.proofs.Common.{subst}
use Rattle.wide_int.specs.Fractions.{IsLowest}
use Rattle.wide_int.proofs.fraction.Frac.den.Goals as goal

pub returns-clause-lowest : goal.returns-clause-lowest
returns-clause-lowest c = subst IsLowest c.self.view_is c.self.invariant
