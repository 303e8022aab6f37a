use Rattle.std.proofs.Common.{◌≡◌, ◌<◌, ◌∙◌, length, List, ℤ, ap, subst, refl, arith, sym}
use Rattle.int_vectors.specs.RowSteps.{cleaned, FitsCleaned}
use Rattle.reduced_rows.specs.Steps.{FitsCleanedAll}
use Rattle.int_vectors.proofs.InPlace.{map_read, map_set}
use Rattle.reduced_rows.proofs.Picking.{each_at}
use Rattle.reduced_rows.proofs.CleaningAll.{all_more, all_at}
use Rattle.reduced_rows.proofs.stepping.clean_all.Goals as goal

pub loop-i-init : goal.loop-i-init
unfolding FitsCleanedAll
loop-i-init c = record { done = refl; fits = tt; count = omega arith }

pub clean-requires-clause-lengths : goal.clean-requires-clause-lengths
clean-requires-clause-lengths c =
    let lt : c.loop-i.i < length c.args.rows.now.items = omega (arith, c.loop-i.invariant.count) in
    let e = c.index_mut.ensures.value ∙ map_read (cleaned c.args.k c.args.by.now) c.args.rows.now.items c.loop-i.rows.items c.loop-i.i lt c.loop-i.invariant.done c.index_mut.result.now in
    ap length e ∙ each_at (λ row. length row ≡ length c.args.by.now) c.args.rows.now.items c.loop-i.i c.index_mut.result.now lt c.requires.lengths

pub returns-then-not-clean : goal.returns-then-not-clean
returns-then-not-clean c =
    let lt : c.loop-i.i < length c.args.rows.now.items = omega (arith, c.loop-i.invariant.count) in
    let e = c.index_mut.ensures.value ∙ map_read (cleaned c.args.k c.args.by.now) c.args.rows.now.items c.loop-i.rows.items c.loop-i.i lt c.loop-i.invariant.done c.index_mut.result.now in
    λ h. c.if-not-clean.ensures.value (subst (λ (r : List ℤ). FitsCleaned c.args.k c.args.by.now r) (sym e) (all_at c.args.k c.args.by.now c.args.rows.now.items c.loop-i.i c.index_mut.result.now lt h))

pub loop-i-preserved : goal.loop-i-preserved
loop-i-preserved c =
    let old = c.args.rows.now.items in
    let lt : c.loop-i.i < length c.args.rows.now.items = omega (arith, c.loop-i.invariant.count) in
    let x = c.index_mut.result.now in
    let e = c.index_mut.ensures.value ∙ map_read (cleaned c.args.k c.args.by.now) old c.loop-i.rows.items c.loop-i.i lt c.loop-i.invariant.done x in
    let v = c.if-not-clean.ensures.value in
    record {
      done = map_set (cleaned c.args.k c.args.by.now) old c.loop-i.rows.items c.loop-i.i lt c.loop-i.invariant.done x c.clean.new.self (v.1 ∙ ap (cleaned c.args.k c.args.by.now) e);
      fits = all_more c.args.k c.args.by.now old c.loop-i.i x lt c.loop-i.invariant.fits (subst (λ (r : List ℤ). FitsCleaned c.args.k c.args.by.now r) e v.0);
      count = c.loop-i.invariant.count;
    }
