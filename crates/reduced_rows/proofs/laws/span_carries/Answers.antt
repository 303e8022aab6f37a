use Rattle.reduced_rows.proofs.Carrying as carried
use Rattle.reduced_rows.proofs.laws.span_carries.Goals as goal

pub returns : goal.returns
returns c = carried.span_carries
