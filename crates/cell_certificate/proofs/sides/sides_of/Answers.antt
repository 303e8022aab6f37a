use Rattle.std.proofs.Common.{◌-◌, length, arith}
use Rattle.cell_certificate.specs.Sides.{IsNear}
use Rattle.cell_certificate.proofs.Positions.{mapped_at}
use Rattle.cell_certificate.proofs.sides.sides_of.Goals as goal

pub rise-requires-clause-a_near : goal.rise-requires-clause-a_near
rise-requires-clause-a_near c =
    let pair = c.requires.pair in
    mapped_at (IsNear (length c.args.normal.now.v)) c.args.points.now (c.args.pair.0 - 1) _ c.requires.near (omega (arith, pair.0, pair.1, pair.2)) c.index-points-pair.is

pub rise-requires-clause-x_near : goal.rise-requires-clause-x_near
rise-requires-clause-x_near c =
    let pair = c.requires.pair in
    mapped_at (IsNear (length c.args.normal.now.v)) c.args.points.now (c.args.pair.1 - 1) _ c.requires.near (omega (arith, pair.0, pair.1, pair.2)) c.index-points-pair-2.is
