use Rattle.std.proofs.Common.{rules, ◌≡◌, ◌^◌, ◌∙◌, List, ℤ, ap, sym, subst, pos, get_or, length, unsigned_abs, FitsSigned, to_z-of_z, arith}
use Rattle.std.specs.Int.{w64}
use Rattle.std.proofs.lemmas.Nat.Gcd.{dvd_refl, dvd_trans}
use Rattle.int_vectors.specs.Bounds.{StepRoom}
use Rattle.int_vectors.specs.Contents.{DividesEach}
use Rattle.int_vectors.specs.RowSteps.{eliminated}
use Rattle.reduced_rows.proofs.Picking.{each_at}
use Rattle.carried_inverse.proofs.ColumnSteps.{step_room, column_left}
use Rattle.carried_inverse.proofs.combining.divisor_along.Goals as goal

pub loop-k-init : goal.loop-k-init
loop-k-init c =
    let fs : FitsSigned w64 c.args.start = c.ranges.start in
    let fp : FitsSigned w64 c.args.pivot = c.ranges.pivot in
    simp to_z-of_z (record { positive = c.requires.positive; divides = dvd_refl (unsigned_abs c.args.start); greatest = λ d h e. h })

pub combined_at-one-requires-clause-lengths : goal.combined_at-one-requires-clause-lengths
combined_at-one-requires-clause-lengths c =
    ap length (c.as_slice.ensures ∙ c.index-columns-k.is) ∙ each_at (λ (x : List ℤ). length x ≡ length c.args.by.now) c.args.columns.now c.loop-k.k c.index-columns-k.result c.loop-k-test.true c.requires.long

pub combined_at-one-requires-clause-place : goal.combined_at-one-requires-clause-place
combined_at-one-requires-clause-place c =
    let n = ap length (c.as_slice.ensures ∙ c.index-columns-k.is) ∙ each_at (λ (x : List ℤ). length x ≡ length c.args.by.now) c.args.columns.now c.loop-k.k c.index-columns-k.result c.loop-k-test.true c.requires.long in
    omega (arith, n, c.requires.square, c.loop-k-test.true)

pub combined_at-one-requires-clause-room : goal.combined_at-one-requires-clause-room
combined_at-one-requires-clause-room c =
    let fp : FitsSigned w64 c.args.pivot = c.ranges.pivot in
    let fx : FitsSigned w64 (get_or c.args.shares.now c.loop-k.k (pos 0)) = search rules in
    let r = step_room c.args.pivot c.args.shares.now c.args.columns.now c.args.by.now c.loop-k.k c.index-columns-k.result c.requires.count c.loop-k-test.true c.requires.room in
    simp to_z-of_z (subst (λ (x : List ℤ). StepRoom (2 ^ 62) c.args.pivot (get_or c.args.shares.now c.loop-k.k (pos 0)) x c.args.by.now) (sym (c.as_slice.ensures ∙ c.index-columns-k.is)) r)

pub loop-k-preserved : goal.loop-k-preserved
loop-k-preserved c =
    let fs : FitsSigned w64 c.args.start = c.ranges.start in
    let fp : FitsSigned w64 c.args.pivot = c.ranges.pivot in
    let fx : FitsSigned w64 (get_or c.args.shares.now c.loop-k.k (pos 0)) = search rules in
    let fo : FitsSigned w64 c.combined_at-one.result = search rules in
    let fc : FitsSigned w64 c.common-g.result = search rules in
    let v = simp to_z-of_z at c.loop-k.invariant in
    let h = simp to_z-of_z at c.combined_at-one.ensures in
    let d = simp to_z-of_z at c.common-g.ensures.divisor in
    simp to_z-of_z (record {
      positive = c.common-g.ensures.positive;
      divides = dvd_trans (unsigned_abs c.common-g.result) d.1 v.divides;
      greatest = λ m a e. d.2 m (h m (subst (λ (x : List ℤ). DividesEach m (eliminated c.args.pivot (get_or c.args.shares.now c.loop-k.k (pos 0)) x c.args.by.now)) (sym (c.as_slice.ensures ∙ c.index-columns-k.is))
          (column_left m c.args.pivot c.args.shares.now c.args.columns.now c.args.by.now c.loop-k.k c.index-columns-k.result (let b = c.requires.count in omega (arith, b, c.loop-k-test.true)) c.loop-k-test.true e))) (v.greatest m a e);
    })

pub returns-clause-divides : goal.returns-clause-divides
returns-clause-divides c =
    let fs : FitsSigned w64 c.args.start = c.ranges.start in
    let fp : FitsSigned w64 c.args.pivot = c.ranges.pivot in
    let v = simp to_z-of_z at c.loop-k.invariant in
    v.divides

pub returns-clause-greatest : goal.returns-clause-greatest
returns-clause-greatest c =
    let fs : FitsSigned w64 c.args.start = c.ranges.start in
    let fp : FitsSigned w64 c.args.pivot = c.ranges.pivot in
    let v = simp to_z-of_z at c.loop-k.invariant in
    v.greatest
