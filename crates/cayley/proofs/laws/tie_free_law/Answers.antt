use Rattle.cayley.proofs.Life.LifeLaws.{tie_free_law}
use Rattle.cayley.proofs.laws.tie_free_law.Goals as goal

pub returns : goal.returns
returns c = tie_free_law
