use Rattle.std.proofs.Common.{map}
use Rattle.wide_int.proofs.Turns.{next_all}
use Rattle.cell_certificate.specs.Sides.{seen}
use Rattle.cell_certificate.specs.Sums.{FitsAt, RisesAt, UntiedAt}
use Rattle.cell_certificate.proofs.Turns.{next_test}
use Rattle.cell_certificate.proofs.sides.further_sides.Goals as goal

pub loop-place-preserved : goal.loop-place-preserved
loop-place-preserved c =
    let den = c.args.normal.now.den in
    let v = c.args.normal.now.v in
    let s = map seen c.args.points.now in
    let i = c.loop-place.invariant in
    let h = c.in_ok-own.ensures in
    record {
      fits = next_all (FitsAt den v s c.args.pair.0 c.args.pair.1) c.loop-place.place i.fits h.0;
      above = next_test (RisesAt den v s c.args.pair.0 c.args.pair.1) c.loop-place.place _ _ _ i.above h.1 c.and-sides.ensures.above;
      untied = next_test (UntiedAt den v s c.args.pair.0 c.args.pair.1) c.loop-place.place _ _ _ i.untied h.2 c.and-sides.ensures.untied;
    }
