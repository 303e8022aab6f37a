use Rattle.std.proofs.Common.{FitsSigned, to_z-of_z}
use Rattle.std.specs.Int.{w128}
use Rattle.int_vectors.proofs.Fitting.{fits_quotients}
use Rattle.int_vectors.proofs.contents.divide_entries.Goals as goal

pub returns-clause-fits : goal.returns-clause-fits
returns-clause-fits c =
    let fg : FitsSigned w128 c.args.g = c.ranges.g in
    fits_quotients c.args.g c.args.entries.now c.divide_all.new.entries c.requires.positive (simp to_z-of_z at c.divide_all.ensures) c.requires.fits
