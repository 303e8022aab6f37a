use Rattle.std.proofs.Common.{rules}
use Rattle.int_vectors.proofs.BoundRows.{within_weaker}
use Rattle.cone_walls.specs.Rooms.{IsNarrowRoom, IsWideRoom}
use Rattle.cone_walls.proofs.rooms.room_of.Goals as goal

pub copies_of-requires-clause-numbers : goal.copies_of-requires-clause-numbers
copies_of-requires-clause-numbers c =
    let k : IsNarrowRoom c.args.normal.now.den c.greater-most.result c.reach.result = search rules in (
      c.greater-most.result,
      k.1,
      within_weaker c.greatest.result c.greater-most.result c.args.normal.now.p c.greater-most.ensures.a c.greatest.ensures.bound,
      within_weaker c.greatest-2.result c.greater-most.result c.args.normal.now.q c.greater-most.ensures.b c.greatest-2.ensures.bound,
    )

pub returns-in_ok-copies : goal.returns-in_ok-copies
returns-in_ok-copies c =
    let k : IsNarrowRoom c.args.normal.now.den c.greater-most.result c.reach.result = search rules in (
      c.in_ok-copies.ensures,
      (
        c.greater-most.result,
        c.reach.result,
        within_weaker c.greatest.result c.greater-most.result c.args.normal.now.p c.greater-most.ensures.a c.greatest.ensures.bound,
        within_weaker c.greatest-2.result c.greater-most.result c.args.normal.now.q c.greater-most.ensures.b c.greatest-2.ensures.bound,
        c.reach.ensures,
        k,
      ),
    )

pub returns-then-is_wide : goal.returns-then-is_wide
returns-then-is_wide c =
    let k : IsWideRoom c.args.normal.now.den c.greater-most.result = search rules in (
      c.greater-most.result,
      within_weaker c.greatest.result c.greater-most.result c.args.normal.now.p c.greater-most.ensures.a c.greatest.ensures.bound,
      within_weaker c.greatest-2.result c.greater-most.result c.args.normal.now.q c.greater-most.ensures.b c.greatest-2.ensures.bound,
      k,
    )
