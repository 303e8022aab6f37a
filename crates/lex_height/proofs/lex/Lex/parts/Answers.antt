use Rattle.std.proofs.Common.{subst}
use Rattle.lex_height.specs.Values.{IsLowest}
use Rattle.lex_height.proofs.lex.Lex.parts.Goals as goal

pub returns-clause-lowest : goal.returns-clause-lowest
returns-clause-lowest c = subst IsLowest c.self.view_is c.self.invariant
