use Rattle.std.proofs.Common.{◌≡◌, ℕ, ◌+◌, ◌-◌, ◌∙◌, ap, sym, subst, refl, ℤ, List, [], ◌∷◌, ◌++◌, map, length, Ok, arith}
use Rattle.std.specs.Prelude.{slice_index_or}
use Rattle.std.specs.Global.{Vec}
use Rattle.std.proofs.lemmas.List.{map_push, length-append}
use Rattle.support_text.specs.Stored.{heights_view}
use Rattle.support_text.specs.Faults.{Fails, series}
use Rattle.support_text.specs.Words.{next_line}
use Rattle.support_text.proofs.Series.{series_start, series_step, series_end, series_fails}
use Rattle.lift_move.specs.MoveText.{heights_line, heights_at}
use Rattle.lift_move.proofs.reading.all_heights.Goals as goal

pub loop-place-init : goal.loop-place-init
loop-place-init c = record {
  so_far = series_start (heights_at c.args.counts.now c.args.lines.now.end_line) (length c.args.counts.now) (map heights_view c.new-second.result.items) c.args.lines.now.rows (ap (map heights_view) c.new-second.ensures.items);
  end_line = refl;
  size = ap (λ (l : List (Vec ℤ)). length (map heights_view l)) c.new-second.ensures.items;
}

pub returns-then-is_err-clause-end_line : goal.returns-then-is_err-clause-end_line
returns-then-is_err-clause-end_line c = c.loop-place.invariant.end_line

pub returns-in-Err-clause-reading : goal.returns-in-Err-clause-reading
returns-in-Err-clause-reading c =
    let counts = c.args.counts.now in
    let here = subst (λ (k : ℕ). Fails c.in-Err.fault (next_line (heights_line (slice_index_or counts k 0)) c.loop-place.lines.end_line c.loop-place.lines.rows)) (sym c.loop-place.invariant.size) c.in-Err.ensures.reading in
    series_fails (heights_at counts c.loop-place.lines.end_line) (length counts) c.loop-place.place (map heights_view c.loop-place.second.items) c.loop-place.lines.rows
    (series (length counts) (heights_at counts c.args.lines.now.end_line) [] c.args.lines.now.rows) c.in-Err.fault c.loop-place-test.true here c.loop-place.invariant.so_far

pub returns-in-Err-clause-end_line : goal.returns-in-Err-clause-end_line
returns-in-Err-clause-end_line c = c.heights.ensures.end_line ∙ c.loop-place.invariant.end_line

pub loop-place-preserved : goal.loop-place-preserved
loop-place-preserved c =
    let counts = c.args.counts.now in
    let place = c.loop-place.place in
    let before = map heights_view c.loop-place.second.items in
    let grown = c.push_reserved.ensures.items ∙ ap (λ (l : List (Vec ℤ)). l ++ c.in-Ok.found ∷ []) c.reserve.ensures.items in
    let more = ap (map heights_view) grown ∙ map_push heights_view c.loop-place.second.items c.in-Ok.found in
    let whole = series (length counts) (heights_at counts c.args.lines.now.end_line) [] c.args.lines.now.rows in
    let here = subst (λ (k : ℕ). next_line (heights_line (slice_index_or counts k 0)) c.loop-place.lines.end_line c.loop-place.lines.rows ≡ Ok (heights_view c.in-Ok.found, c.heights.new.lines.rows)) (sym c.loop-place.invariant.size) c.in-Ok.ensures.reading in
    let next = series_step (heights_at counts c.loop-place.lines.end_line) (length counts) place before c.loop-place.lines.rows whole (map heights_view c.push_reserved.new.self.items) (heights_view c.in-Ok.found) c.heights.new.lines.rows
    more c.loop-place-test.true here c.loop-place.invariant.so_far in
    record {
      so_far = subst (λ (k : ℕ). series (length counts - (place + 1)) (heights_at counts k) (map heights_view c.push_reserved.new.self.items) c.heights.new.lines.rows ≡ whole) (sym c.heights.ensures.end_line) next;
      end_line = c.heights.ensures.end_line ∙ c.loop-place.invariant.end_line;
      size = omega (arith, ap length more, length-append before (heights_view c.in-Ok.found ∷ []), c.loop-place.invariant.size);
    }

pub returns-clause-reading : goal.returns-clause-reading
returns-clause-reading c =
    series_end (heights_at c.args.counts.now c.loop-place.lines.end_line) (length c.args.counts.now) c.loop-place.place (map heights_view c.loop-place.second.items) c.loop-place.lines.rows
    (series (length c.args.counts.now) (heights_at c.args.counts.now c.args.lines.now.end_line) [] c.args.lines.now.rows) c.loop-place-test.false c.loop-place.invariant.so_far

pub returns-clause-end_line : goal.returns-clause-end_line
returns-clause-end_line c = c.loop-place.invariant.end_line
