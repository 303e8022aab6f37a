use Rattle.std.proofs.Common.{◌≡◌, ℕ, ◌+◌, ◌-◌, ◌∙◌, ap, sym, subst, refl, List, [], Ok}
use Rattle.std.proofs.lemmas.Result.{err_from_is_err_and}
use Rattle.cayley.specs.Files.{FilePoint}
use Rattle.support_text.specs.Faults.{series}
use Rattle.support_text.specs.ProblemText.{point_at}
use Rattle.support_text.proofs.Series.{series_start, series_one, series_end, series_one_fails}
use Rattle.support_text.proofs.points.points.Goals as goal

pub loop-turn-init : goal.loop-turn-init
loop-turn-init c = record {
  so_far = series_start (point_at c.args.n c.args.lines.now.end_line) c.args.count c.new-points.result c.args.lines.now.rows c.new-points.ensures;
  end_line = refl;
}

pub returns-in_err-point-clause-reading : goal.returns-in_err-point-clause-reading
returns-in_err-point-clause-reading c =
    let p = err_from_is_err_and c.from_residual.result c.from_residual.ensures.1 in
    rw (p.1, p.2) (series_one_fails (point_at c.args.n c.loop-turn.lines.end_line) c.args.count c.loop-turn._turn c.loop-turn.points c.loop-turn.lines.rows
    (series c.args.count (point_at c.args.n c.args.lines.now.end_line) [] c.args.lines.now.rows) c.in_err-point.field-0.0 c.loop-turn-test.true c.in_err-point.ensures.reading c.loop-turn.invariant.so_far)

pub returns-in_err-point-clause-end_line : goal.returns-in_err-point-clause-end_line
returns-in_err-point-clause-end_line c = c.point.ensures.end_line ∙ c.loop-turn.invariant.end_line

pub loop-turn-preserved : goal.loop-turn-preserved
loop-turn-preserved c =
    let count = c.args.count in
    let turn = c.loop-turn._turn in
    let whole = (series c.args.count (point_at c.args.n c.args.lines.now.end_line) [] c.args.lines.now.rows) in
    let next = series_one (point_at c.args.n c.loop-turn.lines.end_line) count turn c.loop-turn.points c.loop-turn.lines.rows whole c.point.new.points c.point.new.lines.rows
    c.loop-turn-test.true c.in_ok-point.ensures.reading c.loop-turn.invariant.so_far in
    record {
      so_far = subst (λ (k : ℕ). series (count - (turn + 1)) (point_at c.args.n k) c.point.new.points c.point.new.lines.rows ≡ whole) (sym c.point.ensures.end_line) next;
      end_line = c.point.ensures.end_line ∙ c.loop-turn.invariant.end_line;
    }

pub returns-clause-reading : goal.returns-clause-reading
returns-clause-reading c =
    series_end (point_at c.args.n c.loop-turn.lines.end_line) c.args.count c.loop-turn._turn c.loop-turn.points c.loop-turn.lines.rows
    (series c.args.count (point_at c.args.n c.args.lines.now.end_line) [] c.args.lines.now.rows) c.loop-turn-test.false c.loop-turn.invariant.so_far
    ∙ ap (λ (points : List FilePoint). Ok (points, c.loop-turn.lines.rows)) (sym c.into_points.ensures)

pub returns-clause-end_line : goal.returns-clause-end_line
returns-clause-end_line c = c.loop-turn.invariant.end_line
