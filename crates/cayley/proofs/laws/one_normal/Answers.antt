use Rattle.cayley.proofs.OneCell.OneNormal.{one_normal_law}
use Rattle.cayley.proofs.laws.one_normal.Goals as goal

pub returns : goal.returns
returns c = one_normal_law
