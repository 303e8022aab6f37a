use Rattle.cayley.proofs.Flipping.FlipChildren.{children_law}
use Rattle.cayley.proofs.laws.children_law.Goals as goal

pub returns : goal.returns
returns c = children_law
