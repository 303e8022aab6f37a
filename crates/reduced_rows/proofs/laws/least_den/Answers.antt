use Rattle.reduced_rows.proofs.LeastMultiple as least
use Rattle.reduced_rows.proofs.laws.least_den.Goals as goal

pub returns : goal.returns
returns c = least.least_den
