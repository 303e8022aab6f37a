use Rattle.cayley.proofs.Life.LifeLaws.{one_share_law}
use Rattle.cayley.proofs.laws.one_share.Goals as goal

pub returns : goal.returns
returns c = one_share_law
