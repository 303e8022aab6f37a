use Rattle.cayley.proofs.Life.NamedTies.{named_tie_law}
use Rattle.cayley.proofs.laws.named_tie_law.Goals as goal

pub returns : goal.returns
returns c = named_tie_law
