use Rattle.std.proofs.Common.{rules, ◌<◌, ◌^◌, ◌+ℤ◌, ◌*ℤ◌, pos, get_or, length, FitsSigned, to_z, to_z-of_z, arith}
use Rattle.std.specs.Int.{w128}
use Rattle.std.proofs.lemmas.Int.{fits_signed_from_abs}
use Rattle.int_vectors.proofs.DotSteps.{value_more}
use Rattle.int_vectors.proofs.BoundSums.{room_at}
use Rattle.int_vectors.proofs.bounds.dot_unchecked.Goals as goal

pub overflow_mul-total : goal.overflow_mul-total
overflow_mul-total c =
    let fs : FitsSigned w128 c.args.start = c.ranges.start in
    let fx : FitsSigned w128 (get_or c.args.a.now c.loop-i.i (pos 0)) = search rules in
    let fy : FitsSigned w128 (get_or c.args.b.now c.loop-i.i (pos 0)) = search rules in
    let v = simp to_z-of_z at c.loop-i.invariant in
    let r = room_at (2 ^ 127) (to_z w128 c.loop-i.total-bits) c.args.a.now c.args.b.now c.loop-i.i c.loop-i-test.true (omega arith) v.room in
    simp to_z-of_z (fits_signed_from_abs w128 _ r.0)

pub overflow_add-total : goal.overflow_add-total
overflow_add-total c =
    let fs : FitsSigned w128 c.args.start = c.ranges.start in
    let fx : FitsSigned w128 (get_or c.args.a.now c.loop-i.i (pos 0)) = search rules in
    let fy : FitsSigned w128 (get_or c.args.b.now c.loop-i.i (pos 0)) = search rules in
    let v = simp to_z-of_z at c.loop-i.invariant in
    let r = room_at (2 ^ 127) (to_z w128 c.loop-i.total-bits) c.args.a.now c.args.b.now c.loop-i.i c.loop-i-test.true (omega arith) v.room in
    let fp : FitsSigned w128 (get_or c.args.a.now c.loop-i.i (pos 0) *ℤ get_or c.args.b.now c.loop-i.i (pos 0)) = fits_signed_from_abs w128 _ r.0 in
    simp to_z-of_z (fits_signed_from_abs w128 _ r.1)

pub loop-i-preserved : goal.loop-i-preserved
loop-i-preserved c =
    let fs : FitsSigned w128 c.args.start = c.ranges.start in
    let fx : FitsSigned w128 (get_or c.args.a.now c.loop-i.i (pos 0)) = search rules in
    let fy : FitsSigned w128 (get_or c.args.b.now c.loop-i.i (pos 0)) = search rules in
    let v = simp to_z-of_z at c.loop-i.invariant in
    let lb : c.loop-i.i < length c.args.b.now = omega arith in
    let r = room_at (2 ^ 127) (to_z w128 c.loop-i.total-bits) c.args.a.now c.args.b.now c.loop-i.i c.loop-i-test.true lb v.room in
    let fp : FitsSigned w128 (get_or c.args.a.now c.loop-i.i (pos 0) *ℤ get_or c.args.b.now c.loop-i.i (pos 0)) = fits_signed_from_abs w128 _ r.0 in
    let ft : FitsSigned w128 (to_z w128 c.loop-i.total-bits +ℤ get_or c.args.a.now c.loop-i.i (pos 0) *ℤ get_or c.args.b.now c.loop-i.i (pos 0)) = fits_signed_from_abs w128 _ r.1 in
    simp to_z-of_z (record {
      value = value_more c.args.start (to_z w128 c.loop-i.total-bits) c.args.a.now c.args.b.now c.loop-i.i c.loop-i-test.true lb v.value;
      room = r.2;
    })
