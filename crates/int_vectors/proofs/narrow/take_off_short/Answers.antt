use Rattle.std.proofs.Common.{rules, ◌≡◌, ◌<◌, ◌^◌, ◌*ℤ◌, ◌-ℤ◌, refl, pos, get_or, length, FitsSigned, to_z-of_z, arith}
use Rattle.std.specs.Int.{w64, w128}
use Rattle.int_vectors.specs.RowSteps.{eliminated}
use Rattle.int_vectors.proofs.TakingOff.{off_set}
use Rattle.int_vectors.proofs.BoundRows.{narrow_at, off_all}
use Rattle.int_vectors.proofs.narrow.take_off_short.Goals as goal

pub loop-i-init : goal.loop-i-init
unfolding eliminated
loop-i-init c = record { made = refl; count = refl }

pub narrowed-requires : goal.narrowed-requires
narrowed-requires c =
    let fp : FitsSigned w64 c.args.pivot = c.ranges.pivot in
    let ff : FitsSigned w64 c.args.factor = c.ranges.factor in
    let fx : FitsSigned w128 (get_or c.loop-i.entries c.loop-i.i (pos 0)) = search rules in
    let v = simp to_z-of_z at c.loop-i.invariant in
    let lt : c.loop-i.i < length c.args.entries.now = omega arith in
    let m = c.requires.room in
    let r = narrow_at c.args.pivot c.args.factor c.args.entries.now c.args.by.now c.loop-i.entries c.loop-i.i c.requires.lengths lt v.made m in
    simp to_z-of_z r.0

pub narrowed-requires-in-loop-i : goal.narrowed-requires-in-loop-i
narrowed-requires-in-loop-i c =
    let fp : FitsSigned w64 c.args.pivot = c.ranges.pivot in
    let ff : FitsSigned w64 c.args.factor = c.ranges.factor in
    let fx : FitsSigned w128 (get_or c.loop-i.entries c.loop-i.i (pos 0)) = search rules in
    let fy : FitsSigned w128 (get_or c.args.by.now c.loop-i.i (pos 0)) = search rules in
    let v = simp to_z-of_z at c.loop-i.invariant in
    let lt : c.loop-i.i < length c.args.entries.now = omega arith in
    let m = c.requires.room in
    let r = narrow_at c.args.pivot c.args.factor c.args.entries.now c.args.by.now c.loop-i.entries c.loop-i.i c.requires.lengths lt v.made m in
    simp to_z-of_z r.1

pub narrow_place-requires-clause-left : goal.narrow_place-requires-clause-left
narrow_place-requires-clause-left c =
    let fp : FitsSigned w64 c.args.pivot = c.ranges.pivot in
    let ff : FitsSigned w64 c.args.factor = c.ranges.factor in
    let fx : FitsSigned w128 (get_or c.loop-i.entries c.loop-i.i (pos 0)) = search rules in
    let fy : FitsSigned w128 (get_or c.args.by.now c.loop-i.i (pos 0)) = search rules in
    let v = simp to_z-of_z at c.loop-i.invariant in
    let lt : c.loop-i.i < length c.args.entries.now = omega arith in
    let m = c.requires.room in
    let r = narrow_at c.args.pivot c.args.factor c.args.entries.now c.args.by.now c.loop-i.entries c.loop-i.i c.requires.lengths lt v.made m in
    let gx : FitsSigned w64 c.narrowed.result = search rules in
    let gy : FitsSigned w64 c.narrowed-in-loop-i.result = search rules in
    let ex : c.narrowed.result ≡ get_or c.loop-i.entries c.loop-i.i (pos 0) = simp to_z-of_z at c.narrowed.ensures in
    let ey : c.narrowed-in-loop-i.result ≡ get_or c.args.by.now c.loop-i.i (pos 0) = simp to_z-of_z at c.narrowed-in-loop-i.ensures in
    simp to_z-of_z (rw ex r.2)

pub narrow_place-requires-clause-right : goal.narrow_place-requires-clause-right
narrow_place-requires-clause-right c =
    let fp : FitsSigned w64 c.args.pivot = c.ranges.pivot in
    let ff : FitsSigned w64 c.args.factor = c.ranges.factor in
    let fx : FitsSigned w128 (get_or c.loop-i.entries c.loop-i.i (pos 0)) = search rules in
    let fy : FitsSigned w128 (get_or c.args.by.now c.loop-i.i (pos 0)) = search rules in
    let v = simp to_z-of_z at c.loop-i.invariant in
    let lt : c.loop-i.i < length c.args.entries.now = omega arith in
    let m = c.requires.room in
    let r = narrow_at c.args.pivot c.args.factor c.args.entries.now c.args.by.now c.loop-i.entries c.loop-i.i c.requires.lengths lt v.made m in
    let gx : FitsSigned w64 c.narrowed.result = search rules in
    let gy : FitsSigned w64 c.narrowed-in-loop-i.result = search rules in
    let ex : c.narrowed.result ≡ get_or c.loop-i.entries c.loop-i.i (pos 0) = simp to_z-of_z at c.narrowed.ensures in
    let ey : c.narrowed-in-loop-i.result ≡ get_or c.args.by.now c.loop-i.i (pos 0) = simp to_z-of_z at c.narrowed-in-loop-i.ensures in
    simp to_z-of_z (rw ey r.3)

pub loop-i-preserved : goal.loop-i-preserved
loop-i-preserved c =
    let fp : FitsSigned w64 c.args.pivot = c.ranges.pivot in
    let ff : FitsSigned w64 c.args.factor = c.ranges.factor in
    let fx : FitsSigned w128 (get_or c.loop-i.entries c.loop-i.i (pos 0)) = search rules in
    let fy : FitsSigned w128 (get_or c.args.by.now c.loop-i.i (pos 0)) = search rules in
    let v = simp to_z-of_z at c.loop-i.invariant in
    let lt : c.loop-i.i < length c.args.entries.now = omega arith in
    let m = c.requires.room in
    let r = narrow_at c.args.pivot c.args.factor c.args.entries.now c.args.by.now c.loop-i.entries c.loop-i.i c.requires.lengths lt v.made m in
    let gx : FitsSigned w64 c.narrowed.result = search rules in
    let gy : FitsSigned w64 c.narrowed-in-loop-i.result = search rules in
    let ex : c.narrowed.result ≡ get_or c.loop-i.entries c.loop-i.i (pos 0) = simp to_z-of_z at c.narrowed.ensures in
    let ey : c.narrowed-in-loop-i.result ≡ get_or c.args.by.now c.loop-i.i (pos 0) = simp to_z-of_z at c.narrowed-in-loop-i.ensures in
    let g64 : FitsSigned w64 c.narrow_place.result = search rules in
    let fe : FitsSigned w128 c.narrow_place.result = search rules in
    let e : c.narrow_place.result ≡ c.args.pivot *ℤ get_or c.loop-i.entries c.loop-i.i (pos 0) -ℤ c.args.factor *ℤ get_or c.args.by.now c.loop-i.i (pos 0) = rw (ex, ey) at (simp to_z-of_z at c.narrow_place.ensures) in
    simp to_z-of_z (record {
      made = off_set c.args.pivot c.args.factor c.args.entries.now c.args.by.now c.loop-i.entries c.loop-i.i c.requires.lengths lt v.made c.narrow_place.result e;
      count = refl;
    })

pub returns : goal.returns
returns c =
    let fp : FitsSigned w64 c.args.pivot = c.ranges.pivot in
    let ff : FitsSigned w64 c.args.factor = c.ranges.factor in
    let v = simp to_z-of_z at c.loop-i.invariant in
    off_all c.args.pivot c.args.factor c.args.entries.now c.args.by.now c.loop-i.entries c.loop-i.i c.requires.lengths (omega arith) v.made
