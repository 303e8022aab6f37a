use Rattle.std.proofs.Common.{rules, ◌-◌, length, FitsSigned, to_z-of_z, arith}
use Rattle.std.specs.Int.{w128}
use Rattle.cell_certificate.specs.Sides.{IsNear}
use Rattle.cell_certificate.proofs.Rising.{tested, is_free}
use Rattle.cell_certificate.proofs.Positions.{mapped_at, unfit_at, fits_at, rises_at, untied_at}
use Rattle.cell_certificate.proofs.sides.side_of.Goals as goal

pub rise-requires-clause-a_near : goal.rise-requires-clause-a_near
rise-requires-clause-a_near c = mapped_at (IsNear (length c.args.normal.now.v)) c.args.points.now (c.args.pair.0 - 1) _ c.requires.near (omega (arith, c.requires.pair.0, c.requires.pair.1, c.requires.pair.2)) c.index-points-first.is

pub rise-requires-clause-x_near : goal.rise-requires-clause-x_near
rise-requires-clause-x_near c = mapped_at (IsNear (length c.args.normal.now.v)) c.args.points.now c.args.place _ c.requires.near c.requires.place c.index-points-place.is

pub returns-in_err-sum : goal.returns-in_err-sum
returns-in_err-sum c =
    let pair = c.requires.pair in
    rw c.from_residual.ensures
    (unfit_at c.args.normal.now.den c.args.normal.now.v c.args.points.now c.args.pair.0 c.args.pair.1 (c.args.pair.0 - 1) c.args.place c.index-points-first.result c.index-points-place.result
    (omega (arith, pair.0)) (omega (arith, pair.0, pair.1, pair.2)) c.requires.place c.index-points-first.is c.index-points-place.is
    (λ e. c.if-place-first.false (omega (arith, e, pair.0))) c.if-place-pair.false c.in_err-sum.ensures)

pub returns : goal.returns
returns c =
    let pair = c.requires.pair in
    let h = c.in_ok-sum.ensures in
    let fs : FitsSigned w128 c.in_ok-sum.sum = search rules in
    let up = rises_at c.args.normal.now.den c.args.normal.now.v c.args.points.now c.args.pair.0 c.args.pair.1 (c.args.pair.0 - 1) c.args.place c.index-points-first.result c.index-points-place.result
    (omega (arith, pair.0)) (omega (arith, pair.0, pair.1, pair.2)) c.requires.place c.index-points-first.is c.index-points-place.is
    (λ e. c.if-place-first.false (omega (arith, e, pair.0))) c.if-place-pair.false in
    let free = untied_at c.args.normal.now.den c.args.normal.now.v c.args.points.now c.args.pair.0 c.args.pair.1 (c.args.pair.0 - 1) c.args.place c.index-points-first.result c.index-points-place.result
    (omega (arith, pair.0)) (omega (arith, pair.0, pair.1, pair.2)) c.requires.place c.index-points-first.is c.index-points-place.is
    (λ e. c.if-place-first.false (omega (arith, e, pair.0))) c.if-place-pair.false in (
      fits_at c.args.normal.now.den c.args.normal.now.v c.args.points.now c.args.pair.0 c.args.pair.1 (c.args.pair.0 - 1) c.args.place c.index-points-first.result c.index-points-place.result
          (omega (arith, pair.0)) (omega (arith, pair.0, pair.1, pair.2)) c.requires.place c.index-points-first.is c.index-points-place.is h.0,
      simp to_z-of_z (tested c.in_ok-sum.sum _ _ h.1 up),
      is_free c.in_ok-sum.sum _ _ _ h.1 (simp to_z-of_z at c.is_other_than_zero.ensures) free,
    )
