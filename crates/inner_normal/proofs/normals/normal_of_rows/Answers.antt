use Rattle.std.proofs.Common.{List, ℤ, length, sym, ap, subst, ◌∙◌}
use Rattle.std.proofs.lemmas.Result.{err_from_is_err_and}
use Rattle.cayley.specs.Rows.{edge_rows}
use Rattle.inner_normal.proofs.CellAnswers.{normal_rows, normal_fault}
use Rattle.inner_normal.proofs.normals.normal_of_rows.Goals as goal

pub returns-in_err-normal : goal.returns-in_err-normal
returns-in_err-normal c =
    let p = err_from_is_err_and c.from_residual-in_err-normal.result c.from_residual-in_err-normal.ensures.1 in
    rw (p.1, p.2) (normal_fault c.args.problem.now c.args.cell.now c.of.ensures.valid c.requires c.in_ok-eliminated.eliminated c.in_ok-eliminated.ensures.working c.in_err-normal.field-0.0 c.in_err-normal.ensures.working)

pub returns : goal.returns
returns c =
    let w = c.in_ok-normal.ensures.working in
    normal_rows c.args.problem.now c.args.cell.now c.of.ensures.valid c.requires c.in_ok-eliminated.eliminated c.in_ok-eliminated.ensures.working c.in_ok-normal.normal w.0 w.1 c.in_ok-normal.ensures.normal
