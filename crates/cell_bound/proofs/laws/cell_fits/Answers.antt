use Rattle.cell_bound.proofs.CellWorkings as workings
use Rattle.cell_bound.proofs.laws.cell_fits.Goals as goal

pub returns : goal.returns
returns c = workings.cell_fits
