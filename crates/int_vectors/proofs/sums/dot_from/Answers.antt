use Rattle.std.proofs.Common.{rules, ◌<◌, pos, get_or, length, FitsSigned, to_z-of_z, arith}
use Rattle.std.specs.Int.{w128}
use Rattle.int_vectors.proofs.DotSteps.{no_product, no_sum, rest_more, value_more, at_end}
use Rattle.int_vectors.proofs.sums.dot_from.Goals as goal

pub returns-in_err-product-clause-value : goal.returns-in_err-product-clause-value
returns-in_err-product-clause-value c =
    let fs : FitsSigned w128 c.args.start = c.ranges.start in
    let fx : FitsSigned w128 (get_or c.args.a.now c.loop-i.i (pos 0)) = search rules in
    let fy : FitsSigned w128 (get_or c.args.b.now c.loop-i.i (pos 0)) = search rules in
    let h = simp to_z-of_z at c.in_err-product.ensures in
    let i = simp to_z-of_z at c.loop-i.invariant in
    rw c.from_residual.ensures (no_product c.args.start _ c.args.a.now c.args.b.now c.loop-i.i c.loop-i-test.true (omega arith) i.rest.0 h)

pub returns-in_err-total-clause-value : goal.returns-in_err-total-clause-value
returns-in_err-total-clause-value c =
    let fs : FitsSigned w128 c.args.start = c.ranges.start in
    let fx : FitsSigned w128 (get_or c.args.a.now c.loop-i.i (pos 0)) = search rules in
    let fy : FitsSigned w128 (get_or c.args.b.now c.loop-i.i (pos 0)) = search rules in
    let fp : FitsSigned w128 c.in_ok-product.field-0 = search rules in
    let p = simp to_z-of_z at c.in_ok-product.ensures in
    let h = rw p.1 at (simp to_z-of_z at c.in_err-total.ensures) in
    let i = simp to_z-of_z at c.loop-i.invariant in
    rw c.from_residual-in_err-total.ensures (no_sum c.args.start _ c.args.a.now c.args.b.now c.loop-i.i c.loop-i-test.true (omega arith) i.rest.0 h)

pub loop-i-preserved : goal.loop-i-preserved
loop-i-preserved c =
    let fs : FitsSigned w128 c.args.start = c.ranges.start in
    let fx : FitsSigned w128 (get_or c.args.a.now c.loop-i.i (pos 0)) = search rules in
    let fy : FitsSigned w128 (get_or c.args.b.now c.loop-i.i (pos 0)) = search rules in
    let fp : FitsSigned w128 c.in_ok-product.field-0 = search rules in
    let ft : FitsSigned w128 c.in_ok-total.total = search rules in
    let p = simp to_z-of_z at c.in_ok-product.ensures in
    let h = rw p.1 at (simp to_z-of_z at c.in_ok-total.ensures) in
    let i = simp to_z-of_z at c.loop-i.invariant in
    let lb : c.loop-i.i < length c.args.b.now = omega arith in
    simp to_z-of_z (record {
      fits = rw h.1 h.0;
      value = rw h.1 (value_more c.args.start _ c.args.a.now c.args.b.now c.loop-i.i c.loop-i-test.true lb i.value);
      rest = rw h.1 (rest_more c.args.start _ c.args.a.now c.args.b.now c.loop-i.i c.loop-i-test.true lb i.rest p.0 h.0);
    })

pub returns-clause-value : goal.returns-clause-value
returns-clause-value c =
    let fs : FitsSigned w128 c.args.start = c.ranges.start in
    let i = simp to_z-of_z at c.loop-i.invariant in
    at_end c.args.start _ c.args.a.now c.args.b.now c.loop-i.i (omega arith) (omega arith) i.value i.rest.1 i.fits
