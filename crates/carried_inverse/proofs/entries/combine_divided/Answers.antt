use Rattle.std.proofs.Common.{rules, ◌≡◌, ◌*ℤ◌, ◌-ℤ◌, ◌∙◌, refl, sym, pos, get_or, length-set, FitsSigned, to_z-of_z, arith}
use Rattle.std.specs.Int.{w64}
use Rattle.int_vectors.specs.RowSteps.{eliminated}
use Rattle.carried_inverse.proofs.EntrySteps.{whole_below, whole_more, whole_left, whole_end}
use Rattle.carried_inverse.proofs.entries.combine_divided.Goals as goal

pub loop-i-init : goal.loop-i-init
unfolding eliminated
loop-i-init c = record { done = refl; long = c.requires.made }

pub place-requires-clause-left : goal.place-requires-clause-left
place-requires-clause-left c =
    let fp : FitsSigned w64 c.args.pivot = c.ranges.pivot in
    let fx : FitsSigned w64 (get_or c.args.entries.now c.loop-i.i (pos 0)) = search rules in
    let ff : FitsSigned w64 c.args.factor = c.ranges.factor in
    let r = whole_below c.args.pivot c.args.factor c.args.entries.now c.args.by.now c.loop-i.i c.requires.lengths c.loop-i-test.true c.requires.room in
    simp to_z-of_z r.0

pub place-requires-clause-right : goal.place-requires-clause-right
place-requires-clause-right c =
    let fp : FitsSigned w64 c.args.pivot = c.ranges.pivot in
    let ff : FitsSigned w64 c.args.factor = c.ranges.factor in
    let fy : FitsSigned w64 (get_or c.args.by.now c.loop-i.i (pos 0)) = search rules in
    let r = whole_below c.args.pivot c.args.factor c.args.entries.now c.args.by.now c.loop-i.i c.requires.lengths c.loop-i-test.true c.requires.room in
    simp to_z-of_z r.1

pub loop-i-preserved : goal.loop-i-preserved
loop-i-preserved c =
    let fp : FitsSigned w64 c.args.pivot = c.ranges.pivot in
    let ff : FitsSigned w64 c.args.factor = c.ranges.factor in
    let fg : FitsSigned w64 c.args.g = c.ranges.g in
    let fx : FitsSigned w64 (get_or c.args.entries.now c.loop-i.i (pos 0)) = search rules in
    let fy : FitsSigned w64 (get_or c.args.by.now c.loop-i.i (pos 0)) = search rules in
    let fz : FitsSigned w64 c.place.result = search rules in
    let fq : FitsSigned w64 c.in-Ok.entry = search rules in
    let v = simp to_z-of_z at c.loop-i.invariant in
    let z : c.place.result ≡ c.args.pivot *ℤ get_or c.args.entries.now c.loop-i.i (pos 0) -ℤ c.args.factor *ℤ get_or c.args.by.now c.loop-i.i (pos 0) = simp to_z-of_z at c.place.ensures in
    let q : c.place.result ≡ c.args.g *ℤ c.in-Ok.entry = simp to_z-of_z at c.in-Ok.ensures in
    simp to_z-of_z (record {
      done = whole_more c.args.pivot c.args.factor c.args.g c.in-Ok.entry c.args.entries.now c.args.by.now c.loop-i.made c.loop-i.i c.requires.lengths c.loop-i-test.true v.long v.done (sym z ∙ q);
      long = length-set c.loop-i.made c.loop-i.i c.in-Ok.entry ∙ v.long;
    })

pub returns-in-Err-clause-left : goal.returns-in-Err-clause-left
returns-in-Err-clause-left c =
    let fp : FitsSigned w64 c.args.pivot = c.ranges.pivot in
    let ff : FitsSigned w64 c.args.factor = c.ranges.factor in
    let fx : FitsSigned w64 (get_or c.args.entries.now c.loop-i.i (pos 0)) = search rules in
    let fy : FitsSigned w64 (get_or c.args.by.now c.loop-i.i (pos 0)) = search rules in
    let fz : FitsSigned w64 c.place.result = search rules in
    let fl : FitsSigned w64 c.in-Err.left = search rules in
    let z : c.place.result ≡ c.args.pivot *ℤ get_or c.args.entries.now c.loop-i.i (pos 0) -ℤ c.args.factor *ℤ get_or c.args.by.now c.loop-i.i (pos 0) = simp to_z-of_z at c.place.ensures in
    let e : c.in-Err.left ≡ c.place.result = simp to_z-of_z at c.in-Err.ensures in
    simp to_z-of_z (λ d h. whole_left d c.args.pivot c.args.factor c.in-Err.left c.args.entries.now c.args.by.now c.loop-i.i c.requires.lengths c.loop-i-test.true (e ∙ z) h)

pub returns-clause-value : goal.returns-clause-value
returns-clause-value c =
    let fp : FitsSigned w64 c.args.pivot = c.ranges.pivot in
    let ff : FitsSigned w64 c.args.factor = c.ranges.factor in
    let fg : FitsSigned w64 c.args.g = c.ranges.g in
    let v = simp to_z-of_z at c.loop-i.invariant in
    λ t. whole_end c.args.pivot c.args.factor c.args.g c.args.entries.now c.args.by.now c.loop-i.made c.loop-i.i c.requires.lengths v.long (omega arith) v.done
