use Rattle.cayley.proofs.Life.LifeLaws.{share_law}
use Rattle.cayley.proofs.laws.share_law.Goals as goal

pub returns : goal.returns
returns c = share_law
