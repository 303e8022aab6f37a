use Rattle.std.proofs.Common.{arith}
use Rattle.cell_bound.proofs.Spreads.{some_points}
use Rattle.cell_bound.proofs.ranges.middle.Goals as goal

pub returns-else-files-count : goal.returns-else-files-count
returns-else-files-count c = (omega arith, some_points c.args.problem.now c.dim-dim.ensures.valid c.args.i c.requires.least c.requires.greatest)
