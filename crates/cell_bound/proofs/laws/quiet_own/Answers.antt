use Rattle.cell_bound.proofs.SmallFiles as small
use Rattle.cell_bound.proofs.laws.quiet_own.Goals as goal

pub returns : goal.returns
returns c = small.quiet_own
