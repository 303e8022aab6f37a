use Rattle.cayley.proofs.Life.Targets.{target_law}
use Rattle.cayley.proofs.laws.target_law.Goals as goal

pub returns : goal.returns
returns c = target_law
