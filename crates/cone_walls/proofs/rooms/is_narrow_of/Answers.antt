use Rattle.std.proofs.Common.{rules, FitsSigned, to_z-of_z}
use Rattle.std.specs.Int.{w128}
use Rattle.int_vectors.proofs.BoundRows.{within_weaker}
use Rattle.cone_walls.proofs.rooms.is_narrow_of.Goals as goal

pub returns : goal.returns
returns c =
    let f : FitsSigned w128 c.args.normal.now.den = search rules in
    let e = simp to_z-of_z at c.is_narrow.ensures in
    λ t. (
      c.greater-most.result,
      c.reach.result,
      within_weaker c.greatest.result c.greater-most.result c.args.normal.now.p c.greater-most.ensures.a c.greatest.ensures.bound,
      within_weaker c.greatest-2.result c.greater-most.result c.args.normal.now.q c.greater-most.ensures.b c.greatest-2.ensures.bound,
      c.reach.ensures,
      e t,
    )
