use Rattle.std.proofs.Common.{◌∙◌, length, ap, sym}
use Rattle.cayley.proofs.OneCell.CellRows.{InRange}
use Rattle.inner_normal.proofs.Reading.{cell_long}
use Rattle.carried_inverse.proofs.PairFalls.{falls_long}
use Rattle.log_check.proofs.numbers.normal_by.Goals as goal

pub row_sums-requires-clause-falls : goal.row_sums-requires-clause-falls
row_sums-requires-clause-falls c =
    let p = c.args.problem.now in
    let cell = c.args.node.now.cell in
    ap length (c.as_slice.ensures.value ∙ c.in-Ok.ensures.0) ∙ (falls_long p.supports cell c.requires.of).0
    ∙ cell_long p.supports cell InRange c.requires.of ∙ c.dim-n.ensures.valid.shape.problem.supports ∙ sym c.dim-n.ensures.value

pub row_sums-requires-2-clause-falls : goal.row_sums-requires-2-clause-falls
row_sums-requires-2-clause-falls c =
    let p = c.args.problem.now in
    let cell = c.args.node.now.cell in
    ap length (c.as_slice-2.ensures.value ∙ c.in-Ok.ensures.1) ∙ (falls_long p.supports cell c.requires.of).1
    ∙ cell_long p.supports cell InRange c.requires.of ∙ c.dim-n.ensures.valid.shape.problem.supports ∙ sym c.dim-n.ensures.value
