use Rattle.cayley.proofs.Life.LifeLaws.{once_law}
use Rattle.cayley.proofs.laws.once_law.Goals as goal

pub returns : goal.returns
returns c = once_law
