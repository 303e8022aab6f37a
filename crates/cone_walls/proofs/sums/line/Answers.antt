use Rattle.std.proofs.Common.{◌≡◌}
use Rattle.cayley.specs.Stored.{point}
use Rattle.cone_walls.specs.Numbers.{alpha, beta}
use Rattle.cone_walls.proofs.RoomAround.{room_wider, line_value, line_fits}
use Rattle.cone_walls.proofs.sums.line.Goals as goal

pub returns-in-Narrow-clause-value : goal.returns-in-Narrow-clause-value
returns-in-Narrow-clause-value c =
    let m = c.args.normal.now in
    let a = point c.args.a.now in
    let x = point c.args.c.now in
    let h = rw c.in-Narrow.is at c.requires.room in
    let ea : c.narrow_line.result.alpha ≡ alpha m a x = rw (h.0.0, h.0.1) at c.narrow_line.ensures.alpha in
    let eb : c.narrow_line.result.beta ≡ beta m a x = rw (h.0.0, h.0.2) at c.narrow_line.ensures.beta in
    line_value m c.args.i c.args.position a x c.narrow_line.result c.narrow_line.ensures.support c.narrow_line.ensures.position ea eb c.narrow_line.ensures.fine (room_wider m a x h.1)

pub returns-in-Narrow-clause-fits : goal.returns-in-Narrow-clause-fits
returns-in-Narrow-clause-fits c =
    let m = c.args.normal.now in
    let a = point c.args.a.now in
    let x = point c.args.c.now in
    let h = rw c.in-Narrow.is at c.requires.room in
    let ea : c.narrow_line.result.alpha ≡ alpha m a x = rw (h.0.0, h.0.1) at c.narrow_line.ensures.alpha in
    let eb : c.narrow_line.result.beta ≡ beta m a x = rw (h.0.0, h.0.2) at c.narrow_line.ensures.beta in
    line_fits m c.args.i c.args.position a x c.narrow_line.result c.narrow_line.ensures.support c.narrow_line.ensures.position ea eb c.narrow_line.ensures.fine (room_wider m a x h.1)

pub returns-in-Wide-clause-value : goal.returns-in-Wide-clause-value
returns-in-Wide-clause-value c =
    let m = c.args.normal.now in
    let a = point c.args.a.now in
    let x = point c.args.c.now in
    let h = rw c.in-Wide.is at c.requires.room in
    line_value m c.args.i c.args.position a x c.wide_line.result c.wide_line.ensures.support c.wide_line.ensures.position c.wide_line.ensures.alpha c.wide_line.ensures.beta c.wide_line.ensures.fine (h.0, h.1)

pub returns-in-Wide-clause-fits : goal.returns-in-Wide-clause-fits
returns-in-Wide-clause-fits c =
    let m = c.args.normal.now in
    let a = point c.args.a.now in
    let x = point c.args.c.now in
    let h = rw c.in-Wide.is at c.requires.room in
    line_fits m c.args.i c.args.position a x c.wide_line.result c.wide_line.ensures.support c.wide_line.ensures.position c.wide_line.ensures.alpha c.wide_line.ensures.beta c.wide_line.ensures.fine (h.0, h.1)
