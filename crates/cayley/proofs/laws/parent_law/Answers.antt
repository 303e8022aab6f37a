use Rattle.cayley.proofs.Life.LifeLaws.{parent_law}
use Rattle.cayley.proofs.laws.parent_law.Goals as goal

pub returns : goal.returns
returns c = parent_law
