use Rattle.cayley.proofs.Life.NamedTies.{named_is_shown_law}
use Rattle.cayley.proofs.laws.named_is_shown_law.Goals as goal

pub returns : goal.returns
returns c = named_is_shown_law
