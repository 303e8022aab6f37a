use Rattle.std.proofs.Common.{rules, ◌≡◌, ◌-ℤ◌, pos, get_or, FitsSigned, to_z-of_z, arith}
use Rattle.std.specs.Int.{w128}
use Rattle.int_vectors.specs.Bounds.{IsNarrow}
use Rattle.int_vectors.proofs.DifferenceSums.{each_at, no_product, no_sum, rest_more, value_more, fits_end}
use Rattle.int_vectors.proofs.between.dot_between.Goals as goal

pub between-requires-clause-a_small : goal.between-requires-clause-a_small
between-requires-clause-a_small c =
    let fa : FitsSigned w128 (get_or c.args.a.now c.loop-i.i (pos 0)) = search rules in
    simp to_z-of_z (each_at IsNarrow c.args.a.now c.loop-i.i (omega (arith, c.requires.a_length)) c.requires.a_small)

pub between-requires-clause-c_small : goal.between-requires-clause-c_small
between-requires-clause-c_small c =
    let fc : FitsSigned w128 (get_or c.args.c.now c.loop-i.i (pos 0)) = search rules in
    simp to_z-of_z (each_at IsNarrow c.args.c.now c.loop-i.i (omega (arith, c.requires.c_length)) c.requires.c_small)

pub returns-in_err-product-clause-value : goal.returns-in_err-product-clause-value
returns-in_err-product-clause-value c =
    let fs : FitsSigned w128 c.args.start = c.ranges.start in
    let fa : FitsSigned w128 (get_or c.args.a.now c.loop-i.i (pos 0)) = search rules in
    let fc : FitsSigned w128 (get_or c.args.c.now c.loop-i.i (pos 0)) = search rules in
    let fx : FitsSigned w128 (get_or c.args.v.now c.loop-i.i (pos 0)) = search rules in
    let fd : FitsSigned w128 c.between.result = search rules in
    let d : c.between.result ≡ get_or c.args.c.now c.loop-i.i (pos 0) -ℤ get_or c.args.a.now c.loop-i.i (pos 0) = simp to_z-of_z at c.between.ensures in
    let h = rw d at (simp to_z-of_z at c.in_err-product.ensures) in
    let i = simp to_z-of_z at c.loop-i.invariant in
    rw c.from_residual.ensures (no_product c.args.start _ c.args.a.now c.args.c.now c.args.v.now c.loop-i.i c.requires.a_length c.requires.c_length c.loop-i-test.true i.rest.0 h)

pub returns-in_err-total-clause-value : goal.returns-in_err-total-clause-value
returns-in_err-total-clause-value c =
    let fs : FitsSigned w128 c.args.start = c.ranges.start in
    let fa : FitsSigned w128 (get_or c.args.a.now c.loop-i.i (pos 0)) = search rules in
    let fc : FitsSigned w128 (get_or c.args.c.now c.loop-i.i (pos 0)) = search rules in
    let fx : FitsSigned w128 (get_or c.args.v.now c.loop-i.i (pos 0)) = search rules in
    let fp : FitsSigned w128 c.in_ok-product.field-0 = search rules in
    let fd : FitsSigned w128 c.between.result = search rules in
    let d : c.between.result ≡ get_or c.args.c.now c.loop-i.i (pos 0) -ℤ get_or c.args.a.now c.loop-i.i (pos 0) = simp to_z-of_z at c.between.ensures in
    let p = rw d at (simp to_z-of_z at c.in_ok-product.ensures) in
    let h = rw p.1 at (simp to_z-of_z at c.in_err-total.ensures) in
    let i = simp to_z-of_z at c.loop-i.invariant in
    rw c.from_residual-in_err-total.ensures (no_sum c.args.start _ c.args.a.now c.args.c.now c.args.v.now c.loop-i.i c.requires.a_length c.requires.c_length c.loop-i-test.true i.rest.0 h)

pub loop-i-preserved : goal.loop-i-preserved
loop-i-preserved c =
    let fs : FitsSigned w128 c.args.start = c.ranges.start in
    let fa : FitsSigned w128 (get_or c.args.a.now c.loop-i.i (pos 0)) = search rules in
    let fc : FitsSigned w128 (get_or c.args.c.now c.loop-i.i (pos 0)) = search rules in
    let fx : FitsSigned w128 (get_or c.args.v.now c.loop-i.i (pos 0)) = search rules in
    let fp : FitsSigned w128 c.in_ok-product.field-0 = search rules in
    let ft : FitsSigned w128 c.in_ok-total.total = search rules in
    let fd : FitsSigned w128 c.between.result = search rules in
    let d : c.between.result ≡ get_or c.args.c.now c.loop-i.i (pos 0) -ℤ get_or c.args.a.now c.loop-i.i (pos 0) = simp to_z-of_z at c.between.ensures in
    let p = rw d at (simp to_z-of_z at c.in_ok-product.ensures) in
    let h = rw p.1 at (simp to_z-of_z at c.in_ok-total.ensures) in
    let i = simp to_z-of_z at c.loop-i.invariant in
    simp to_z-of_z (record {
      fits = rw h.1 h.0;
      value = rw h.1 (value_more c.args.start _ c.args.a.now c.args.c.now c.args.v.now c.loop-i.i c.requires.a_length c.requires.c_length c.loop-i-test.true i.value);
      rest = rw h.1 (rest_more c.args.start _ c.args.a.now c.args.c.now c.args.v.now c.loop-i.i c.requires.a_length c.requires.c_length c.loop-i-test.true i.rest p.0 h.0);
    })

pub returns-clause-value : goal.returns-clause-value
returns-clause-value c =
    let fs : FitsSigned w128 c.args.start = c.ranges.start in
    let i = simp to_z-of_z at c.loop-i.invariant in
    fits_end c.args.start _ c.args.a.now c.args.c.now c.args.v.now c.loop-i.i c.requires.a_length c.requires.c_length (omega arith) i.value i.rest.1 i.fits
