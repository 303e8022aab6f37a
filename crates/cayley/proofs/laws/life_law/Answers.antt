use Rattle.cayley.proofs.Life.LifeLaws.{life_law}
use Rattle.cayley.proofs.laws.life_law.Goals as goal

pub returns : goal.returns
returns c = life_law
