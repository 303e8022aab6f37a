use Rattle.cayley.proofs.Life.Still.{mixed_law}
use Rattle.cayley.proofs.laws.mixed_law.Goals as goal

pub returns : goal.returns
returns c = mixed_law
