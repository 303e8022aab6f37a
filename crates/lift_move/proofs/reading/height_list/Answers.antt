use Rattle.std.proofs.Common.{◌≡◌, ℕ, ◌+◌, ◌-◌, ◌∙◌, ap, sym, subst, refl, ℤ, List, [], ◌∷◌, ◌++◌}
use Rattle.std.proofs.Common.{to_z, of_z}
use Rattle.std.specs.Int.{w64, w128}
use Rattle.std.proofs.lemmas.Int.{to_z-of_z}
use Rattle.support_text.specs.Faults.{series}
use Rattle.support_text.specs.Words.{words}
use Rattle.support_text.proofs.Series.{series_start, series_step, series_end, series_fails}
use Rattle.lift_move.specs.MoveText.{second_height}
use Rattle.lift_move.proofs.Widths.{height_width, height_width_128}
use Rattle.lift_move.proofs.reading.height_list.Goals as goal

pub loop-turn-init : goal.loop-turn-init
loop-turn-init c = record {
  so_far = series_start (second_height c.args.line.now.number) c.args.count c.new-heights.result.items (words c.args.line.now) c.new-heights.ensures.items;
  number = refl;
}

pub returns-then-is_err-clause-number : goal.returns-then-is_err-clause-number
returns-then-is_err-clause-number c = c.loop-turn.invariant.number

pub returns-in-Err-clause-reading : goal.returns-in-Err-clause-reading
returns-in-Err-clause-reading c =
    series_fails (second_height c.loop-turn.line.number) c.args.count c.loop-turn._turn c.loop-turn.heights.items (words c.loop-turn.line)
    (series c.args.count (second_height c.args.line.now.number) [] (words c.args.line.now)) c.in-Err.fault c.loop-turn-test.true c.in-Err.ensures.reading c.loop-turn.invariant.so_far

pub returns-in-Err-clause-number : goal.returns-in-Err-clause-number
returns-in-Err-clause-number c = c.number.ensures.number ∙ c.loop-turn.invariant.number

pub loop-turn-preserved : goal.loop-turn-preserved
loop-turn-preserved c =
    let count = c.args.count in
    let turn = c.loop-turn._turn in
    let width = height_width c.in-Ok.height c.in-Ok.ensures.within.0 c.in-Ok.ensures.within.1 in
    let wide = height_width_128 c.in-Ok.height c.in-Ok.ensures.within.0 c.in-Ok.ensures.within.1 in
    let more = c.push_reserved.ensures.items ∙ ap (λ (z : ℤ). c.reserve.new.self.items ++ to_z w64 (of_z w64 z) ∷ []) (to_z-of_z w128 c.in-Ok.height wide) ∙ ap (λ (z : ℤ). c.reserve.new.self.items ++ z ∷ []) (to_z-of_z w64 c.in-Ok.height width) ∙ ap (λ (l : List ℤ). l ++ c.in-Ok.height ∷ []) c.reserve.ensures.items in
    let whole = series count (second_height c.args.line.now.number) [] (words c.args.line.now) in
    let next = series_step (second_height c.loop-turn.line.number) count turn c.loop-turn.heights.items (words c.loop-turn.line) whole c.push_reserved.new.self.items c.in-Ok.height (words c.number.new.line)
    more c.loop-turn-test.true c.in-Ok.ensures.reading c.loop-turn.invariant.so_far in
    record {
      so_far = subst (λ (k : ℕ). series (count - (turn + 1)) (second_height k) c.push_reserved.new.self.items (words c.number.new.line) ≡ whole) (sym c.number.ensures.number) next;
      number = c.number.ensures.number ∙ c.loop-turn.invariant.number;
    }

pub returns-clause-reading : goal.returns-clause-reading
returns-clause-reading c =
    series_end (second_height c.loop-turn.line.number) c.args.count c.loop-turn._turn c.loop-turn.heights.items (words c.loop-turn.line)
    (series c.args.count (second_height c.args.line.now.number) [] (words c.args.line.now)) c.loop-turn-test.false c.loop-turn.invariant.so_far

pub returns-clause-number : goal.returns-clause-number
returns-clause-number c = c.loop-turn.invariant.number
