use Rattle.std.proofs.Common.{◌≡◌, ℕ, ◌+◌, ◌-◌, ◌∙◌, ap, sym, subst, refl, List, ℤ, [], ◌∷◌, ◌++◌, map}
use Rattle.std.specs.Global.{Vec}
use Rattle.poly_text.specs.SystemText.{support_view}
use Rattle.std.proofs.lemmas.List.{map_push}
use Rattle.support_text.specs.Faults.{series}
use Rattle.poly_text.specs.SystemText.{polynomial_at}
use Rattle.support_text.proofs.Series.{series_start, series_step, series_end, series_fails}
use Rattle.poly_text.proofs.system.polynomials.Goals as goal

pub loop-turn-init : goal.loop-turn-init
loop-turn-init c = record {
  so_far = series_start (polynomial_at c.args.n c.args.lines.now.end_line) c.args.n (map support_view c.new-supports.result.items) c.args.lines.now.rows (ap (map support_view) c.new-supports.ensures.items);
  end_line = refl;
}

pub returns-then-is_err-clause-end_line : goal.returns-then-is_err-clause-end_line
returns-then-is_err-clause-end_line c = c.loop-turn.invariant.end_line

pub returns-in-Err-clause-reading : goal.returns-in-Err-clause-reading
returns-in-Err-clause-reading c =
    series_fails (polynomial_at c.args.n c.loop-turn.lines.end_line) c.args.n c.loop-turn._turn (map support_view c.loop-turn.supports.items) c.loop-turn.lines.rows
    (series c.args.n (polynomial_at c.args.n c.args.lines.now.end_line) [] c.args.lines.now.rows) c.in-Err.fault c.loop-turn-test.true c.in-Err.ensures.reading c.loop-turn.invariant.so_far

pub returns-in-Err-clause-end_line : goal.returns-in-Err-clause-end_line
returns-in-Err-clause-end_line c = c.next_polynomial.ensures.end_line ∙ c.loop-turn.invariant.end_line

pub loop-turn-preserved : goal.loop-turn-preserved
loop-turn-preserved c =
    let count = c.args.n in
    let turn = c.loop-turn._turn in
    let grown = c.push_reserved.ensures.items ∙ ap (λ (l : List (Vec (List ℤ))). l ++ c.in-Ok.support ∷ []) c.reserve.ensures.items in
    let more = ap (map support_view) grown ∙ map_push support_view c.loop-turn.supports.items c.in-Ok.support in
    let whole = (series c.args.n (polynomial_at c.args.n c.args.lines.now.end_line) [] c.args.lines.now.rows) in
    let next = series_step (polynomial_at c.args.n c.loop-turn.lines.end_line) count turn (map support_view c.loop-turn.supports.items) c.loop-turn.lines.rows whole (map support_view c.push_reserved.new.self.items) (support_view c.in-Ok.support) c.next_polynomial.new.lines.rows
    more c.loop-turn-test.true c.in-Ok.ensures.reading c.loop-turn.invariant.so_far in
    record {
      so_far = subst (λ (k : ℕ). series (count - (turn + 1)) (polynomial_at c.args.n k) (map support_view c.push_reserved.new.self.items) c.next_polynomial.new.lines.rows ≡ whole) (sym c.next_polynomial.ensures.end_line) next;
      end_line = c.next_polynomial.ensures.end_line ∙ c.loop-turn.invariant.end_line;
    }

pub returns-clause-reading : goal.returns-clause-reading
returns-clause-reading c =
    series_end (polynomial_at c.args.n c.loop-turn.lines.end_line) c.args.n c.loop-turn._turn (map support_view c.loop-turn.supports.items) c.loop-turn.lines.rows
    (series c.args.n (polynomial_at c.args.n c.args.lines.now.end_line) [] c.args.lines.now.rows) c.loop-turn-test.false c.loop-turn.invariant.so_far

pub returns-clause-end_line : goal.returns-clause-end_line
returns-clause-end_line c = c.loop-turn.invariant.end_line
