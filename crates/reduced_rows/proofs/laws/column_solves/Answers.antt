use Rattle.reduced_rows.proofs.Solving as solving
use Rattle.reduced_rows.proofs.laws.column_solves.Goals as goal

pub returns : goal.returns
returns c = solving.column_solves
