use Rattle.std.proofs.Common.{rules, ◌^◌, FitsSigned, to_z-of_z}
use Rattle.std.specs.Int.{w128}
use Rattle.int_vectors.specs.Bounds.{SumBelow}
use Rattle.int_vectors.proofs.BoundSums.{room_fits}
use Rattle.int_vectors.proofs.bounds.dot_behind.Goals as goal

pub returns-then-row_fits : goal.returns-then-row_fits
returns-then-row_fits c =
    let fs : FitsSigned w128 c.args.start = c.ranges.start in
    let below : SumBelow (2 ^ 127) c.args.w c.args.start c.args.a.now = (simp to_z-of_z at c.row_fits.ensures) c.if-row_fits.true in
    let fr : FitsSigned w128 c.dot_unchecked.result = search rules in
    let value = simp to_z-of_z at c.dot_unchecked.ensures in
    simp to_z-of_z (room_fits c.args.start c.args.a.now c.args.b.now (c.args.w, c.requires.within, below), value)
