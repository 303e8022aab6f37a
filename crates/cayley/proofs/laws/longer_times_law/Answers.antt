use Rattle.cayley.proofs.Life.LongerTimes.{longer_times_law}
use Rattle.cayley.proofs.laws.longer_times_law.Goals as goal

pub returns : goal.returns
returns c = longer_times_law
