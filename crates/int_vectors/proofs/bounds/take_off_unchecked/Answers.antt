use Rattle.std.proofs.Common.{rules, ◌<◌, ◌^◌, ◌*ℤ◌, ◌-ℤ◌, refl, pos, get_or, length, FitsSigned, to_z-of_z, arith}
use Rattle.std.specs.Int.{w128}
use Rattle.std.proofs.lemmas.Int.{fits_signed_from_abs}
use Rattle.int_vectors.specs.RowSteps.{eliminated}
use Rattle.int_vectors.proofs.TakingOff.{off_set}
use Rattle.int_vectors.proofs.BoundRows.{off_below, off_all}
use Rattle.int_vectors.proofs.bounds.take_off_unchecked.Goals as goal

pub loop-i-init : goal.loop-i-init
unfolding eliminated
loop-i-init c = record { made = refl; count = refl }

pub overflow_mul-entries : goal.overflow_mul-entries
overflow_mul-entries c =
    let fp : FitsSigned w128 c.args.pivot = c.ranges.pivot in
    let ff : FitsSigned w128 c.args.factor = c.ranges.factor in
    let fx : FitsSigned w128 (get_or c.loop-i.entries c.loop-i.i (pos 0)) = search rules in
    let v = simp to_z-of_z at c.loop-i.invariant in
    let lt : c.loop-i.i < length c.args.entries.now = omega arith in
    let r = off_below c.args.pivot c.args.factor c.args.entries.now c.args.by.now c.loop-i.entries c.loop-i.i c.requires.lengths lt v.made (2 ^ 127) c.requires.room in
    simp to_z-of_z (fits_signed_from_abs w128 _ r.0)

pub overflow_mul-entries-in-loop-i : goal.overflow_mul-entries-in-loop-i
overflow_mul-entries-in-loop-i c =
    let fp : FitsSigned w128 c.args.pivot = c.ranges.pivot in
    let ff : FitsSigned w128 c.args.factor = c.ranges.factor in
    let fy : FitsSigned w128 (get_or c.args.by.now c.loop-i.i (pos 0)) = search rules in
    let v = simp to_z-of_z at c.loop-i.invariant in
    let lt : c.loop-i.i < length c.args.entries.now = omega arith in
    let r = off_below c.args.pivot c.args.factor c.args.entries.now c.args.by.now c.loop-i.entries c.loop-i.i c.requires.lengths lt v.made (2 ^ 127) c.requires.room in
    simp to_z-of_z (fits_signed_from_abs w128 _ r.1)

pub overflow_sub-entries : goal.overflow_sub-entries
overflow_sub-entries c =
    let fp : FitsSigned w128 c.args.pivot = c.ranges.pivot in
    let ff : FitsSigned w128 c.args.factor = c.ranges.factor in
    let fx : FitsSigned w128 (get_or c.loop-i.entries c.loop-i.i (pos 0)) = search rules in
    let fy : FitsSigned w128 (get_or c.args.by.now c.loop-i.i (pos 0)) = search rules in
    let v = simp to_z-of_z at c.loop-i.invariant in
    let lt : c.loop-i.i < length c.args.entries.now = omega arith in
    let r = off_below c.args.pivot c.args.factor c.args.entries.now c.args.by.now c.loop-i.entries c.loop-i.i c.requires.lengths lt v.made (2 ^ 127) c.requires.room in
    let ga : FitsSigned w128 (c.args.pivot *ℤ get_or c.loop-i.entries c.loop-i.i (pos 0)) = fits_signed_from_abs w128 _ r.0 in
    let gb : FitsSigned w128 (c.args.factor *ℤ get_or c.args.by.now c.loop-i.i (pos 0)) = fits_signed_from_abs w128 _ r.1 in
    simp to_z-of_z (fits_signed_from_abs w128 _ r.2)

pub loop-i-preserved : goal.loop-i-preserved
loop-i-preserved c =
    let fp : FitsSigned w128 c.args.pivot = c.ranges.pivot in
    let ff : FitsSigned w128 c.args.factor = c.ranges.factor in
    let fx : FitsSigned w128 (get_or c.loop-i.entries c.loop-i.i (pos 0)) = search rules in
    let fy : FitsSigned w128 (get_or c.args.by.now c.loop-i.i (pos 0)) = search rules in
    let v = simp to_z-of_z at c.loop-i.invariant in
    let lt : c.loop-i.i < length c.args.entries.now = omega arith in
    let r = off_below c.args.pivot c.args.factor c.args.entries.now c.args.by.now c.loop-i.entries c.loop-i.i c.requires.lengths lt v.made (2 ^ 127) c.requires.room in
    let ga : FitsSigned w128 (c.args.pivot *ℤ get_or c.loop-i.entries c.loop-i.i (pos 0)) = fits_signed_from_abs w128 _ r.0 in
    let gb : FitsSigned w128 (c.args.factor *ℤ get_or c.args.by.now c.loop-i.i (pos 0)) = fits_signed_from_abs w128 _ r.1 in
    let gc : FitsSigned w128 (c.args.pivot *ℤ get_or c.loop-i.entries c.loop-i.i (pos 0) -ℤ c.args.factor *ℤ get_or c.args.by.now c.loop-i.i (pos 0)) = fits_signed_from_abs w128 _ r.2 in
    simp to_z-of_z (record {
      made = off_set c.args.pivot c.args.factor c.args.entries.now c.args.by.now c.loop-i.entries c.loop-i.i c.requires.lengths lt v.made _ refl;
      count = refl;
    })

pub returns : goal.returns
returns c =
    let fp : FitsSigned w128 c.args.pivot = c.ranges.pivot in
    let ff : FitsSigned w128 c.args.factor = c.ranges.factor in
    let v = simp to_z-of_z at c.loop-i.invariant in
    off_all c.args.pivot c.args.factor c.args.entries.now c.args.by.now c.loop-i.entries c.loop-i.i c.requires.lengths (omega arith) v.made
