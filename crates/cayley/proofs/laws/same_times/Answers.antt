use Rattle.cayley.proofs.Life.LifeLaws.{same_times_law}
use Rattle.cayley.proofs.laws.same_times.Goals as goal

pub returns : goal.returns
returns c = same_times_law
