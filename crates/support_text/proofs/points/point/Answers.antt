use Rattle.std.proofs.Common.{ℕ, ◌∙◌, subst}
use Rattle.std.proofs.lemmas.Result.{err_from_is_err_and}
use Rattle.cayley.specs.Stored.{file_point}
use Rattle.support_text.specs.Faults.{Gives}
use Rattle.support_text.proofs.PointLines.{with_point, now_is, no_line_left, line_fails, point_judged}
use Rattle.support_text.proofs.points.point.Goals as goal

pub returns-in_err-line-clause-reading : goal.returns-in_err-line-clause-reading
returns-in_err-line-clause-reading c =
    let p = err_from_is_err_and c.from_residual.result c.from_residual.ensures.1 in
    rw (p.1, p.2) (no_line_left c.args.n c.args.lines.now.end_line c.args.points.now c.args.lines.now.rows c.in_err-line.field-0.0 c.in_err-line.ensures.next.0 c.in_err-line.ensures.next.1)

pub returns-in_err-point-clause-reading : goal.returns-in_err-point-clause-reading
returns-in_err-point-clause-reading c =
    let p = err_from_is_err_and c.from_residual-in_err-point.result c.from_residual-in_err-point.ensures.1 in
    rw (p.1, p.2) (line_fails c.args.n c.args.lines.now.end_line c.args.points.now c.in_ok-line.line c.next_line.new.lines.rows c.args.lines.now.rows c.in_ok-line.ensures.next c.in_err-point.field-0.0 c.in_err-point.ensures.reading)

pub returns-clause-reading : goal.returns-clause-reading
returns-clause-reading c =
    let line = c.in_ok-line.line in
    let points = c.args.points.now in
    let x = file_point c.in_ok-point.point in
    let judged = subst (λ (k : ℕ). Gives (now_is c.add.new.self) c.add.result (with_point k points x)) (c.number.ensures ∙ c.point_line.ensures.number) c.add.ensures in
    point_judged c.args.n c.args.lines.now.end_line points line c.next_line.new.lines.rows c.args.lines.now.rows c.in_ok-line.ensures.next x c.add.result c.add.new.self c.in_ok-point.ensures.reading judged
