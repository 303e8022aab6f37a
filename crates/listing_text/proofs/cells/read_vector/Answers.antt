use Rattle.std.proofs.Common.{◌≡◌, ℕ, ◌+◌, ◌-◌, ◌∙◌, ap, sym, subst, refl, ℤ, List, [], ◌∷◌, ◌++◌, Ok}
use Rattle.std.specs.Int.{w128}
use Rattle.std.proofs.lemmas.Int.{to_z-of_z}
use Rattle.int_vectors.specs.Fits.{AllFit}
use Rattle.int_vectors.proofs.Differences.{all-append}
use Rattle.support_text.specs.Faults.{series}
use Rattle.support_text.specs.Words.{words}
use Rattle.support_text.proofs.Series.{series_start, series_step, series_end, series_fails}
use Rattle.listing_text.specs.ListingText.{normal_entry}
use Rattle.listing_text.proofs.Limits.{entry_width, entry_fits}
use Rattle.listing_text.proofs.cells.read_vector.Goals as goal

pub loop-turn-init : goal.loop-turn-init
loop-turn-init c = record {
  so_far = series_start (normal_entry c.args.line.now.number) c.args.n c.new-entries.result.items (words c.args.line.now) c.new-entries.ensures.items;
  number = refl;
  fits = subst AllFit (sym c.new-entries.ensures.items) tt;
}

pub returns-then-is_err-clause-number : goal.returns-then-is_err-clause-number
returns-then-is_err-clause-number c = c.loop-turn.invariant.number

pub returns-in-Err-clause-reading : goal.returns-in-Err-clause-reading
returns-in-Err-clause-reading c =
    series_fails (normal_entry c.loop-turn.line.number) c.args.n c.loop-turn._turn c.loop-turn.entries.items (words c.loop-turn.line)
    (series c.args.n (normal_entry c.args.line.now.number) [] (words c.args.line.now)) c.in-Err.fault c.loop-turn-test.true c.in-Err.ensures.reading c.loop-turn.invariant.so_far

pub returns-in-Err-clause-number : goal.returns-in-Err-clause-number
returns-in-Err-clause-number c = c.number.ensures.number ∙ c.loop-turn.invariant.number

pub loop-turn-preserved : goal.loop-turn-preserved
loop-turn-preserved c =
    let count = c.args.n in
    let turn = c.loop-turn._turn in
    let width = entry_width c.in-Ok.entry c.in-Ok.ensures.within.0 c.in-Ok.ensures.within.1 in
    let more = c.push_reserved.ensures.items ∙ ap (λ (z : ℤ). c.reserve.new.self.items ++ z ∷ []) (to_z-of_z w128 c.in-Ok.entry width) ∙ ap (λ (l : List ℤ). l ++ c.in-Ok.entry ∷ []) c.reserve.ensures.items in
    let whole = series count (normal_entry c.args.line.now.number) [] (words c.args.line.now) in
    let next = series_step (normal_entry c.loop-turn.line.number) count turn c.loop-turn.entries.items (words c.loop-turn.line) whole c.push_reserved.new.self.items c.in-Ok.entry (words c.number.new.line)
    more c.loop-turn-test.true c.in-Ok.ensures.reading c.loop-turn.invariant.so_far in
    record {
      so_far = subst (λ (k : ℕ). series (count - (turn + 1)) (normal_entry k) c.push_reserved.new.self.items (words c.number.new.line) ≡ whole) (sym c.number.ensures.number) next;
      number = c.number.ensures.number ∙ c.loop-turn.invariant.number;
      fits = subst AllFit (sym more) (all-append c.loop-turn.entries.items c.in-Ok.entry c.loop-turn.invariant.fits (entry_fits c.in-Ok.entry c.in-Ok.ensures.within.0 c.in-Ok.ensures.within.1));
    }

pub from_vec-requires : goal.from_vec-requires
from_vec-requires c = c.loop-turn.invariant.fits

pub returns-clause-reading : goal.returns-clause-reading
returns-clause-reading c =
    series_end (normal_entry c.loop-turn.line.number) c.args.n c.loop-turn._turn c.loop-turn.entries.items (words c.loop-turn.line)
    (series c.args.n (normal_entry c.args.line.now.number) [] (words c.args.line.now)) c.loop-turn-test.false c.loop-turn.invariant.so_far
    ∙ ap (λ (xs : List ℤ). Ok (xs, words c.loop-turn.line)) (sym c.from_vec.ensures)

pub returns-clause-number : goal.returns-clause-number
returns-clause-number c = c.loop-turn.invariant.number
