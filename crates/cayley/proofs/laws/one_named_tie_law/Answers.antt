use Rattle.cayley.proofs.Life.NamedTies.{one_named_tie_law}
use Rattle.cayley.proofs.laws.one_named_tie_law.Goals as goal

pub returns : goal.returns
returns c = one_named_tie_law
