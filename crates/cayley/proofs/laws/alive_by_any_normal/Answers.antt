use Rattle.cayley.proofs.OneCell.OneNormal.{alive_by_any_normal}
use Rattle.cayley.proofs.laws.alive_by_any_normal.Goals as goal

pub returns : goal.returns
returns c = alive_by_any_normal
