use Rattle.std.proofs.Common.{◌≡◌}
use Rattle.cayley.specs.Stored.{point}
use Rattle.cone_walls.specs.Numbers.{alpha, beta}
use Rattle.cone_walls.proofs.RoomAround.{room_wider, line_value, line_fits}
use Rattle.cone_walls.proofs.sums.narrow_line_of.Goals as goal

pub returns-clause-value : goal.returns-clause-value
returns-clause-value c =
    let m = c.args.normal.now in
    let a = point c.args.a.now in
    let x = point c.args.c.now in
    let h = c.requires.copies in
    let ea : c.narrow_line.result.alpha ≡ alpha m a x = rw (h.0, h.1) at c.narrow_line.ensures.alpha in
    let eb : c.narrow_line.result.beta ≡ beta m a x = rw (h.0, h.2) at c.narrow_line.ensures.beta in
    line_value m c.args.i c.args.position a x c.narrow_line.result c.narrow_line.ensures.support c.narrow_line.ensures.position ea eb c.narrow_line.ensures.fine (room_wider m a x c.requires.room)

pub returns-clause-fits : goal.returns-clause-fits
returns-clause-fits c =
    let m = c.args.normal.now in
    let a = point c.args.a.now in
    let x = point c.args.c.now in
    let h = c.requires.copies in
    let ea : c.narrow_line.result.alpha ≡ alpha m a x = rw (h.0, h.1) at c.narrow_line.ensures.alpha in
    let eb : c.narrow_line.result.beta ≡ beta m a x = rw (h.0, h.2) at c.narrow_line.ensures.beta in
    line_fits m c.args.i c.args.position a x c.narrow_line.result c.narrow_line.ensures.support c.narrow_line.ensures.position ea eb c.narrow_line.ensures.fine (room_wider m a x c.requires.room)
