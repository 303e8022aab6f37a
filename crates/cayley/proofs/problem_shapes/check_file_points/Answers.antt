use Rattle.std.proofs.Common.{◌≡◌, arith, refl, inr, ◌∙◌, sym, true, false}
use Rattle.std.specs.Prelude.{IsTrue}
use Rattle.std.specs.BTreeSet.{contains}
use Rattle.wide_int.proofs.Bools.{not_true}
use Rattle.cayley.specs.Stored.{held, point}
use Rattle.cayley.specs.Valid.{IsWithinFile}
use Rattle.cayley.proofs.Refusals.FileFaults.{coords_of, coords_here, within_not_outside, is_repeat, sound_more}
use Rattle.cayley.proofs.Refusals.Repeats.{key_cmp, keeps_more}
use Rattle.cayley.proofs.problem_shapes.check_file_points.Goals as goal
use Rattle.int_vectors.proofs.Each.{not_false, no_both}

pub returns-in-Ok-false : goal.returns-in-Ok-false
returns-in-Ok-false c =
    let w : IsWithinFile (held (point c.index-points-k.result)) = c.is_within_resting.ensures.0 c.if-not-is_within_resting.false in
    let there : IsTrue (contains key_cmp c.loop-k.seen c.as_slice.result) = not_false _ (sym c.in-Ok-false.ensures.added ∙ c.in-Ok-false.field-0-test) in
    let r = (c.loop-k.invariant.seen c.as_slice.result).0 there in (
      refl,
      inr (is_repeat (λ x. held (point x)) c.args.points.now c.loop-k.k c.index-points-k.result c.index-points-k.is c.loop-k-test.true (r.0, r.1, r.2 ∙ c.as_slice.ensures.value)),
      (λ q p. c.loop-k.invariant.sound q (omega arith)),
      within_not_outside (λ x. held (point x)) c.args.points.now c.loop-k.k c.index-points-k.result c.index-points-k.is c.loop-k-test.true w,
    )

pub loop-k-preserved : goal.loop-k-preserved
loop-k-preserved c =
    let w : IsWithinFile (held (point c.index-points-k.result)) = c.is_within_resting.ensures.0 c.if-not-is_within_resting.false in
    let new : contains key_cmp c.loop-k.seen c.as_slice.result ≡ false = not_true _ (sym c.in-Ok-true.ensures.added ∙ c.in-Ok-true.field-0-test) in
    record {
      sound = sound_more (λ x. held (point x)) c.args.points.now c.loop-k.k c.index-points-k.result c.index-points-k.is c.loop-k-test.true w
          (λ h. let t : contains key_cmp c.loop-k.seen c.as_slice.result ≡ true = (c.loop-k.invariant.seen c.as_slice.result).1 (h.0, h.1, h.2 ∙ sym c.as_slice.ensures.value) in no_both _ t new)
          c.loop-k.invariant.sound;
      seen = keeps_more c.loop-k.seen c.insert.new.self c.as_slice.result (coords_of (λ x. held (point x)) c.args.points.now) c.loop-k.k c.loop-k.invariant.seen c.in-Ok-true.ensures.updates
          (coords_here (λ x. held (point x)) c.args.points.now c.loop-k.k c.index-points-k.result c.index-points-k.is c.loop-k-test.true ∙ sym c.as_slice.ensures.value);
    }
