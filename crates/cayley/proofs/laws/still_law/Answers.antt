use Rattle.cayley.proofs.Life.Still.{still_law}
use Rattle.cayley.proofs.laws.still_law.Goals as goal

pub returns : goal.returns
returns c = still_law
