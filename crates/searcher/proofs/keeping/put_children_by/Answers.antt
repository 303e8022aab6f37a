use Rattle.std.proofs.Common.{◌-◌, arith}
use Rattle.cayley.proofs.OneCell.CellRows.{InRange}
use Rattle.inner_normal.proofs.Reading.{cell_long}
use Rattle.searcher.proofs.KeptChildren.{at_wall}
use Rattle.searcher.proofs.keeping.put_children_by.Goals as goal

pub put_among-requires-clause-support : goal.put_among-requires-clause-support
put_among-requires-clause-support c =
    let k = cell_long c.args.problem.now.supports c.args.cell.now InRange c.requires.cell in
    let n = c.dim-dim.ensures.valid.shape.problem.supports in
    let a = c.requires.point.0 in
    let b = c.requires.point.1 in
    (a, omega (arith, k, n, b))

pub returns : goal.returns
returns c =
    let w =
    at_wall c.args.problem.now c.args.cell.now (c.args.support - 1) c.args.position c.args.signs.now c.args.time.now c.dim-dim.ensures.valid.shape.problem c.requires.wall c.requires.signs in
    c.put_among.ensures c.args.problem.now w
