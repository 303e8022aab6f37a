use Rattle.std.proofs.lemmas.Result.{err_from_is_err_and}
use Rattle.cayley.specs.Rows.{edge_rows}
use Rattle.inner_normal.proofs.CellAnswers.{fault_before, fault_after}
use Rattle.cone_walls.specs.Workings.{FitsRest}
use Rattle.cone_walls.proofs.kept.made_from.Goals as goal

pub returns-in_err-eliminated : goal.returns-in_err-eliminated
returns-in_err-eliminated c =
    let e = err_from_is_err_and c.from_residual.result c.from_residual.ensures.1 in
    rw (e.1, e.2) (fault_before c.args.problem.now.dimension (edge_rows c.args.problem.now c.args.cell.now) (FitsRest c.args.problem.now c.args.cell.now) c.in_err-eliminated.field-0.0 c.in_err-eliminated.ensures)

pub returns-in_err-walls : goal.returns-in_err-walls
returns-in_err-walls c =
    let e = err_from_is_err_and c.from_residual-in_err-walls.result c.from_residual-in_err-walls.ensures.1 in
    rw (e.1, e.2) (fault_after c.args.problem.now.dimension (edge_rows c.args.problem.now c.args.cell.now) c.in_ok-eliminated.eliminated (FitsRest c.args.problem.now c.args.cell.now) c.in_err-walls.field-0.0 c.in_ok-eliminated.ensures c.in_err-walls.ensures)
