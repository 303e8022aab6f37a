use Rattle.std.proofs.Common.{rules, ◌+◌, ◌-◌, length, map, sym, subst, arith, FitsSigned, to_z-of_z}
use Rattle.std.specs.Prelude.{IsTrue}
use Rattle.std.specs.Int.{w128}
use Rattle.wide_int.proofs.Signed.{is_zero, not_zero}
use Rattle.cell_certificate.specs.Sides.{IsNear, seen}
use Rattle.cell_certificate.proofs.Positions.{mapped_at}
use Rattle.homotopy_rows.specs.Points.{IsSumAt}
use Rattle.homotopy_rows.proofs.Spots.{pair_sum, fits_there, tie_there, sum_there}
use Rattle.homotopy_rows.proofs.sums.sum_at.Goals as goal

pub returns-then-is_of_pair : goal.returns-then-is_of_pair
returns-then-is_of_pair c =
    let t : IsTrue c.is_of_pair.result = search rules in
    pair_sum c.args.normal.now.den c.args.normal.now.v c.args.points.now c.args.pair.0 c.args.pair.1 _ c.requires.level (c.is_of_pair.ensures.0 t)

pub rise-sum-requires-clause-a_near : goal.rise-sum-requires-clause-a_near
rise-sum-requires-clause-a_near c =
    mapped_at (IsNear (length c.args.normal.now.v)) c.args.points.now (c.args.pair.0 - 1) _ c.requires.near (omega (arith, c.requires.pair.0, c.requires.pair.1, c.requires.pair.2)) c.index-points-pair.is

pub rise-sum-requires-clause-x_near : goal.rise-sum-requires-clause-x_near
rise-sum-requires-clause-x_near c = mapped_at (IsNear (length c.args.normal.now.v)) c.args.points.now c.args.place _ c.requires.near c.requires.place c.index-points-place.is

pub rise-sum-requires-clause-fits : goal.rise-sum-requires-clause-fits
rise-sum-requires-clause-fits c =
    let n : ¬ (IsTrue c.is_of_pair.result) = search rules in
    let pair = c.requires.pair in
    fits_there c.args.normal.now.den c.args.normal.now.v c.args.points.now c.args.pair.0 c.args.pair.1 c.args.place c.index-points-pair.result c.index-points-place.result
    pair.0 (omega (arith, pair.1, pair.2)) c.requires.place c.index-points-pair.is c.index-points-place.is (λ h. n (c.is_of_pair.ensures.1 h)) c.requires.fits

pub returns-then-sum-eq0 : goal.returns-then-sum-eq0
returns-then-sum-eq0 c =
    let n : ¬ (IsTrue c.is_of_pair.result) = search rules in
    let fs : FitsSigned w128 c.rise-sum.result = search rules in
    let pair = c.requires.pair in
    tie_there c.args.normal.now.den c.args.normal.now.v c.args.points.now c.args.pair.0 c.args.pair.1 c.args.place c.index-points-pair.result c.index-points-place.result
    pair.0 (omega (arith, pair.1, pair.2)) c.requires.place c.index-points-pair.is c.index-points-place.is (λ h. n (c.is_of_pair.ensures.1 h))
    c.rise-sum.result c.rise-sum.ensures.value (is_zero c.rise-sum.result fs c.if-sum-eq0.true)

pub returns-else-sum-eq0 : goal.returns-else-sum-eq0
returns-else-sum-eq0 c =
    let n : ¬ (IsTrue c.is_of_pair.result) = search rules in
    let fs : FitsSigned w128 c.rise-sum.result = search rules in
    let pair = c.requires.pair in
    subst (IsSumAt c.args.normal.now.den c.args.normal.now.v (map seen c.args.points.now) c.args.pair.0 c.args.pair.1 (c.args.place + 1)) (sym (to_z-of_z {w = w128} {z = c.rise-sum.result} fs))
    (sum_there c.args.normal.now.den c.args.normal.now.v c.args.points.now c.args.pair.0 c.args.pair.1 c.args.place c.index-points-pair.result c.index-points-place.result
    pair.0 (omega (arith, pair.1, pair.2)) c.requires.place c.index-points-pair.is c.index-points-place.is (λ h. n (c.is_of_pair.ensures.1 h))
    c.rise-sum.result c.rise-sum.ensures.value c.rise-sum.ensures.fits (not_zero c.rise-sum.result c.if-sum-eq0.false))
