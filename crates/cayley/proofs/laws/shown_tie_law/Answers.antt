use Rattle.cayley.proofs.Life.ShownTies.{shown_tie_law}
use Rattle.cayley.proofs.laws.shown_tie_law.Goals as goal

pub returns : goal.returns
returns c = shown_tie_law
