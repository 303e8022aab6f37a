use Rattle.cayley.proofs.Life.LifeLaws.{child_law}
use Rattle.cayley.proofs.laws.child_law.Goals as goal

pub returns : goal.returns
returns c = child_law
