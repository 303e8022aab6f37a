use Rattle.std.proofs.Common.{◌≡◌, ℕ, ◌+◌, ◌-◌, ◌<◌, ◌≤◌, ◌∙◌, ap, sym, subst, refl, List, [], ◌∷◌, ◌++◌, length, Ok, arith}
use Rattle.std.proofs.lemmas.List.{length-append}
use Rattle.std.specs.Prelude.{slice_index_or}
use Rattle.cayley.specs.Cells.{IsCell}
use Rattle.support_text.specs.Faults.{Fails, series}
use Rattle.support_text.specs.Words.{words}
use Rattle.support_text.proofs.Series.{series_start, series_step, series_end, series_fails}
use Rattle.listing_text.specs.ListingText.{pair, pair_at}
use Rattle.listing_text.proofs.Limits.{each-push}
use Rattle.listing_text.proofs.cells.pairs.Goals as goal

pub loop-place-init : goal.loop-place-init
loop-place-init c = record {
  so_far = series_start (pair_at c.args.counts.now c.args.line.now.number) (length c.args.counts.now) c.new-pairs.result.items (words c.args.line.now) c.new-pairs.ensures.items;
  number = refl;
  size = ap length c.new-pairs.ensures.items;
  rise = subst IsCell (sym c.new-pairs.ensures.items) tt;
}

pub returns-then-is_err-clause-number : goal.returns-then-is_err-clause-number
returns-then-is_err-clause-number c = c.loop-place.invariant.number

pub returns-in-Err-clause-reading : goal.returns-in-Err-clause-reading
returns-in-Err-clause-reading c =
    let counts = c.args.counts.now in
    let here = subst (λ (k : ℕ). Fails c.in-Err.fault (pair (slice_index_or counts k 0) c.loop-place.line.number (words c.loop-place.line))) (sym c.loop-place.invariant.size) c.in-Err.ensures.reading in
    series_fails (pair_at counts c.loop-place.line.number) (length counts) c.loop-place.place c.loop-place.pairs.items (words c.loop-place.line)
    (series (length counts) (pair_at counts c.args.line.now.number) [] (words c.args.line.now)) c.in-Err.fault c.loop-place-test.true here c.loop-place.invariant.so_far

pub returns-in-Err-clause-number : goal.returns-in-Err-clause-number
returns-in-Err-clause-number c = c.pair.ensures.number ∙ c.loop-place.invariant.number

pub loop-place-preserved : goal.loop-place-preserved
loop-place-preserved c =
    let counts = c.args.counts.now in
    let place = c.loop-place.place in
    let more = c.push_reserved.ensures.items ∙ ap (λ (l : List (ℕ × ℕ)). l ++ c.in-Ok.found ∷ []) c.reserve.ensures.items in
    let whole = series (length counts) (pair_at counts c.args.line.now.number) [] (words c.args.line.now) in
    let here = subst (λ (k : ℕ). pair (slice_index_or counts k 0) c.loop-place.line.number (words c.loop-place.line) ≡ Ok (c.in-Ok.found, words c.pair.new.line)) (sym c.loop-place.invariant.size) c.in-Ok.ensures.reading in
    let next = series_step (pair_at counts c.loop-place.line.number) (length counts) place c.loop-place.pairs.items (words c.loop-place.line) whole c.push_reserved.new.self.items c.in-Ok.found (words c.pair.new.line)
    more c.loop-place-test.true here c.loop-place.invariant.so_far in
    record {
      so_far = subst (λ (k : ℕ). series (length counts - (place + 1)) (pair_at counts k) c.push_reserved.new.self.items (words c.pair.new.line) ≡ whole) (sym c.pair.ensures.number) next;
      number = c.pair.ensures.number ∙ c.loop-place.invariant.number;
      size = omega (arith, ap length more, length-append c.loop-place.pairs.items (c.in-Ok.found ∷ []), c.loop-place.invariant.size);
      rise = subst IsCell (sym more) (each-push (λ (x : ℕ × ℕ). (1 ≤ x.0) × (x.0 < x.1)) c.loop-place.pairs.items c.in-Ok.found c.loop-place.invariant.rise c.in-Ok.ensures.rises);
    }

pub returns-clause-reading : goal.returns-clause-reading
returns-clause-reading c =
    series_end (pair_at c.args.counts.now c.loop-place.line.number) (length c.args.counts.now) c.loop-place.place c.loop-place.pairs.items (words c.loop-place.line)
    (series (length c.args.counts.now) (pair_at c.args.counts.now c.args.line.now.number) [] (words c.args.line.now)) c.loop-place-test.false c.loop-place.invariant.so_far

pub returns-clause-number : goal.returns-clause-number
returns-clause-number c = c.loop-place.invariant.number
