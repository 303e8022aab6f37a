use Rattle.cell_bound.proofs.Spreads.{fits_by}
use Rattle.cell_bound.proofs.ranges.every_cell_fits.Goals as goal

pub returns-in-Some : goal.returns-in-Some
returns-in-Some c = λ t. fits_by c.args.problem.now c.in-Some.bounds.front c.in-Some.bounds.further c.dim-dim.ensures.valid.shape.problem c.in-Some.ensures (c.bounds_fit.ensures.0 t)
