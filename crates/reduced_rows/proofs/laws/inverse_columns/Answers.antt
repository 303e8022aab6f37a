use Rattle.reduced_rows.proofs.InverseSums as sums
use Rattle.reduced_rows.proofs.laws.inverse_columns.Goals as goal

pub returns : goal.returns
returns c = sums.inverse_columns
