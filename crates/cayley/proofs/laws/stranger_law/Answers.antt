use Rattle.cayley.proofs.Searching.Strangers.{stranger_law}
use Rattle.cayley.proofs.laws.stranger_law.Goals as goal

pub returns : goal.returns
returns c = stranger_law
