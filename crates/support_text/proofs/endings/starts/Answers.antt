use Rattle.std.proofs.Common.{◌≡◌, ℕ, ◌+◌, ◌-◌, ◌∙◌, ap, sym, subst, refl, ℤ, List, [], ◌∷◌, ◌++◌, map}
use Rattle.std.specs.Global.{Vec}
use Rattle.support_text.specs.Stored.{heights_view}
use Rattle.std.proofs.lemmas.List.{map_push}
use Rattle.support_text.specs.Faults.{series}
use Rattle.support_text.specs.ProblemText.{start_at}
use Rattle.support_text.proofs.Series.{series_step, series_end, series_fails}
use Rattle.support_text.proofs.endings.starts.Goals as goal

pub loop-turn-init : goal.loop-turn-init
loop-turn-init c = record {
  so_far = ap (λ (l : List (List ℤ)). series (c.args.n - 1) (start_at c.args.n c.args.lines.now.end_line) l c.args.lines.now.rows)
      (ap (map heights_view) (c.push_reserved.ensures.items ∙ ap (λ (l : List (Vec ℤ)). l ++ c.args.first ∷ []) (c.reserve.ensures.items ∙ c.new-starts.ensures.items)));
  end_line = refl;
}

pub returns-then-is_err-2-clause-end_line : goal.returns-then-is_err-2-clause-end_line
returns-then-is_err-2-clause-end_line c = c.loop-turn.invariant.end_line

pub returns-in-Err-clause-reading : goal.returns-in-Err-clause-reading
returns-in-Err-clause-reading c =
    series_fails (start_at c.args.n c.loop-turn.lines.end_line) c.args.n c.loop-turn._turn (map heights_view c.loop-turn.starts.items) c.loop-turn.lines.rows
    (series (c.args.n - 1) (start_at c.args.n c.args.lines.now.end_line) (c.args.first.items ∷ []) c.args.lines.now.rows) c.in-Err.fault c.loop-turn-test.true c.in-Err.ensures.reading c.loop-turn.invariant.so_far

pub returns-in-Err-clause-end_line : goal.returns-in-Err-clause-end_line
returns-in-Err-clause-end_line c = c.start.ensures.end_line ∙ c.loop-turn.invariant.end_line

pub loop-turn-preserved : goal.loop-turn-preserved
loop-turn-preserved c =
    let count = c.args.n in
    let turn = c.loop-turn._turn in
    let grown = c.push_reserved-in-loop-turn.ensures.items ∙ ap (λ (l : List (Vec ℤ)). l ++ c.in-Ok.heights ∷ []) c.reserve-in-loop-turn.ensures.items in
    let more = ap (map heights_view) grown ∙ map_push heights_view c.loop-turn.starts.items c.in-Ok.heights in
    let whole = (series (c.args.n - 1) (start_at c.args.n c.args.lines.now.end_line) (c.args.first.items ∷ []) c.args.lines.now.rows) in
    let next = series_step (start_at c.args.n c.loop-turn.lines.end_line) count turn (map heights_view c.loop-turn.starts.items) c.loop-turn.lines.rows whole (map heights_view c.push_reserved-in-loop-turn.new.self.items) (heights_view c.in-Ok.heights) c.start.new.lines.rows
    more c.loop-turn-test.true c.in-Ok.ensures.reading c.loop-turn.invariant.so_far in
    record {
      so_far = subst (λ (k : ℕ). series (count - (turn + 1)) (start_at c.args.n k) (map heights_view c.push_reserved-in-loop-turn.new.self.items) c.start.new.lines.rows ≡ whole) (sym c.start.ensures.end_line) next;
      end_line = c.start.ensures.end_line ∙ c.loop-turn.invariant.end_line;
    }

pub returns-clause-reading : goal.returns-clause-reading
returns-clause-reading c =
    series_end (start_at c.args.n c.loop-turn.lines.end_line) c.args.n c.loop-turn._turn (map heights_view c.loop-turn.starts.items) c.loop-turn.lines.rows
    (series (c.args.n - 1) (start_at c.args.n c.args.lines.now.end_line) (c.args.first.items ∷ []) c.args.lines.now.rows) c.loop-turn-test.false c.loop-turn.invariant.so_far

pub returns-clause-end_line : goal.returns-clause-end_line
returns-clause-end_line c = c.loop-turn.invariant.end_line
