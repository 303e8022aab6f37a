use Rattle.std.proofs.Common.{◌<◌, ◌-ℤ◌, neg_ℤ, pos, length, get_or, ap, ◌∙◌, arith, rules, FitsSigned, to_z-of_z}
use Rattle.std.specs.Int.{w128}
use Rattle.int_vectors.specs.RowSteps.{negated}
use Rattle.int_vectors.proofs.Fitting.{fits_entry, fits-set}
use Rattle.wide_int.proofs.Signed.{neg_fits, neg_signed, is_neg}
use Rattle.int_vectors.proofs.InPlace.{map_read, map_set, map_end}
use Rattle.int_vectors.proofs.row_steps.negate_all.Goals as goal

pub overflow_sub-x : goal.overflow_sub-x
overflow_sub-x c =
    let fx : FitsSigned w128 (get_or c.loop-x.entries c.loop-x.x-index (pos 0)) = search rules in
    simp to_z-of_z (neg_signed (get_or c.loop-x.entries c.loop-x.x-index (pos 0)) (fits_entry c.loop-x.entries c.loop-x.x-index (omega arith) c.loop-x.invariant.fits))

pub loop-x-preserved : goal.loop-x-preserved
loop-x-preserved c =
    let i = c.loop-x.x-index in
    let old = c.args.entries.now in
    let now = c.loop-x.entries in
    let x = get_or now i (pos 0) in
    let fx : FitsSigned w128 (get_or c.loop-x.entries c.loop-x.x-index (pos 0)) = search rules in
    let lo : c.loop-x.x-index < length c.args.entries.now = omega arith in
    let h = fits_entry now i (omega arith) c.loop-x.invariant.fits in
    let fn : FitsSigned w128 (pos 0 -ℤ get_or c.loop-x.entries c.loop-x.x-index (pos 0)) = neg_signed x h in
    let e = is_neg x ∙ ap neg_ℤ (map_read neg_ℤ old now i lo c.loop-x.invariant.done (pos 0)) in
    simp to_z-of_z (record {
      done = map_set neg_ℤ old now i lo c.loop-x.invariant.done (pos 0) (pos 0 -ℤ x) e;
      fits = fits-set now i (pos 0 -ℤ x) c.loop-x.invariant.fits (rw (is_neg x) (neg_fits x h));
    })

pub returns-clause-value : goal.returns-clause-value
unfolding negated
returns-clause-value c = c.loop-x.invariant.done ∙ map_end neg_ℤ c.args.entries.now c.loop-x.x-index (omega arith)
