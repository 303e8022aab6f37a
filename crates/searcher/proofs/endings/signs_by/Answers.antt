use Rattle.std.proofs.Common.{◌-◌, arith, refl}
use Rattle.cayley.proofs.OneCell.CellRows.{InRange}
use Rattle.inner_normal.proofs.Reading.{cell_long}
use Rattle.searcher.proofs.KeptChildren.{some_minus}
use Rattle.searcher.proofs.endings.signs_by.Goals as goal

pub unreachable-requires : goal.unreachable-requires
unreachable-requires c =
    let cell = c.args.last.now.cell in
    let k = cell_long c.args.problem.now.supports cell InRange c.requires.last.of in
    let n = c.dim-dim.ensures.valid.shape.problem.supports in
    let a = c.requires.point.0 in
    let b = c.requires.point.1 in
    some_minus c.args.problem.now cell (c.args.support - 1) c.args.position (c.in-Some.a, c.in-Some.b) (omega (arith, k, n, a, b)) c.in-Some.ensures (c.in-None-new.ensures.none.0 refl)
