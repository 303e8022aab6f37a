use Rattle.std.proofs.Common.{rules, ◌≡◌, ◌-ℤ◌, pos, get_or, FitsSigned, to_z, to_z-of_z, arith}
use Rattle.std.specs.Int.{w128}
use Rattle.int_vectors.specs.Bounds.{IsNarrow}
use Rattle.int_vectors.proofs.DifferenceSums.{each_at, value_more, fits_more, at_end}
use Rattle.int_vectors.proofs.between.dot_between_unchecked.Goals as goal

pub between-requires-clause-a_small : goal.between-requires-clause-a_small
between-requires-clause-a_small c =
    let fa : FitsSigned w128 (get_or c.args.a.now c.loop-i.i (pos 0)) = search rules in
    simp to_z-of_z (each_at IsNarrow c.args.a.now c.loop-i.i (omega (arith, c.requires.a_length)) c.requires.a_small)

pub between-requires-clause-c_small : goal.between-requires-clause-c_small
between-requires-clause-c_small c =
    let fc : FitsSigned w128 (get_or c.args.c.now c.loop-i.i (pos 0)) = search rules in
    simp to_z-of_z (each_at IsNarrow c.args.c.now c.loop-i.i (omega (arith, c.requires.c_length)) c.requires.c_small)

pub plus_product-total-requires-clause-product : goal.plus_product-total-requires-clause-product
plus_product-total-requires-clause-product c =
    let fs : FitsSigned w128 c.args.start = c.ranges.start in
    let fa : FitsSigned w128 (get_or c.args.a.now c.loop-i.i (pos 0)) = search rules in
    let fc : FitsSigned w128 (get_or c.args.c.now c.loop-i.i (pos 0)) = search rules in
    let fx : FitsSigned w128 (get_or c.args.v.now c.loop-i.i (pos 0)) = search rules in
    let fd : FitsSigned w128 c.between.result = search rules in
    let d : c.between.result ≡ get_or c.args.c.now c.loop-i.i (pos 0) -ℤ get_or c.args.a.now c.loop-i.i (pos 0) = simp to_z-of_z at c.between.ensures in
    let r = fits_more c.args.start (to_z w128 c.loop-i.total-bits) c.args.a.now c.args.c.now c.args.v.now c.loop-i.i c.requires.a_length c.requires.c_length c.loop-i-test.true c.loop-i.invariant.rest in
    simp to_z-of_z (rw d r.0)

pub plus_product-total-requires-clause-sum : goal.plus_product-total-requires-clause-sum
plus_product-total-requires-clause-sum c =
    let fs : FitsSigned w128 c.args.start = c.ranges.start in
    let fa : FitsSigned w128 (get_or c.args.a.now c.loop-i.i (pos 0)) = search rules in
    let fc : FitsSigned w128 (get_or c.args.c.now c.loop-i.i (pos 0)) = search rules in
    let fx : FitsSigned w128 (get_or c.args.v.now c.loop-i.i (pos 0)) = search rules in
    let fd : FitsSigned w128 c.between.result = search rules in
    let d : c.between.result ≡ get_or c.args.c.now c.loop-i.i (pos 0) -ℤ get_or c.args.a.now c.loop-i.i (pos 0) = simp to_z-of_z at c.between.ensures in
    let r = fits_more c.args.start (to_z w128 c.loop-i.total-bits) c.args.a.now c.args.c.now c.args.v.now c.loop-i.i c.requires.a_length c.requires.c_length c.loop-i-test.true c.loop-i.invariant.rest in
    simp to_z-of_z (rw d r.1)

pub loop-i-preserved : goal.loop-i-preserved
loop-i-preserved c =
    let fs : FitsSigned w128 c.args.start = c.ranges.start in
    let fa : FitsSigned w128 (get_or c.args.a.now c.loop-i.i (pos 0)) = search rules in
    let fc : FitsSigned w128 (get_or c.args.c.now c.loop-i.i (pos 0)) = search rules in
    let fx : FitsSigned w128 (get_or c.args.v.now c.loop-i.i (pos 0)) = search rules in
    let fd : FitsSigned w128 c.between.result = search rules in
    let d : c.between.result ≡ get_or c.args.c.now c.loop-i.i (pos 0) -ℤ get_or c.args.a.now c.loop-i.i (pos 0) = simp to_z-of_z at c.between.ensures in
    let r = fits_more c.args.start (to_z w128 c.loop-i.total-bits) c.args.a.now c.args.c.now c.args.v.now c.loop-i.i c.requires.a_length c.requires.c_length c.loop-i-test.true c.loop-i.invariant.rest in
    let ft : FitsSigned w128 c.plus_product-total.result = search rules in
    let e = rw d at (simp to_z-of_z at c.plus_product-total.ensures) in
    let v = simp to_z-of_z at c.loop-i.invariant.value in
    simp to_z-of_z (record {
      value = rw e (value_more c.args.start (to_z w128 c.loop-i.total-bits) c.args.a.now c.args.c.now c.args.v.now c.loop-i.i c.requires.a_length c.requires.c_length c.loop-i-test.true v);
      rest = rw e r.2;
    })

pub returns : goal.returns
returns c =
    let fs : FitsSigned w128 c.args.start = c.ranges.start in
    let v = simp to_z-of_z at c.loop-i.invariant.value in
    at_end c.args.start (to_z w128 c.loop-i.total-bits) c.args.a.now c.args.c.now c.args.v.now c.loop-i.i c.requires.a_length c.requires.c_length c.loop-i-test.false v
