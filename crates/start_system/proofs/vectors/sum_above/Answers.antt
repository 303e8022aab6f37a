use Rattle.std.proofs.Common.{rules, ◌∙◌, ◌+◌, ap₂, subst, sym, arith, FitsSigned, to_z}
use Rattle.std.specs.Int.{w128}
use Rattle.std.proofs.Math.Facts.{to_z-of_z}
use Rattle.std.proofs.Math.IntN.{◌+ℤ◌, ◌-ℤ◌}
use Rattle.int_vectors.specs.Vectors.{sub}
use Rattle.cayley.specs.Paths.{sum_of}
use Rattle.cayley.specs.Valid.{IsCoordinate}
use Rattle.start_system.proofs.Making.Entries.{small_at, sum_more, left_sum}
use Rattle.start_system.proofs.Making.Numbers.{difference_fits, total_fits, total_high, total_low}
use Rattle.start_system.proofs.vectors.sum_above.Goals as goal

pub overflow_sub-total : goal.overflow_sub-total
overflow_sub-total c =
    let f : FitsSigned w128 c.get.result = search rules in
    let g : FitsSigned w128 c.get-in-loop-k.result = search rules in
    let e = c.len-k-end.ensures in
    let n = c.loop-k-test.true in
    let r = c.requires.lengths in
    let s : IsCoordinate c.get.result = subst IsCoordinate (sym c.get.ensures.value) (small_at c.args.x.now c.loop-k.k c.requires.x_small (omega (arith, e, n))) in
    let t : IsCoordinate c.get-in-loop-k.result = subst IsCoordinate (sym c.get-in-loop-k.ensures.value) (small_at c.args.m.now c.loop-k.k c.requires.m_small (omega (arith, e, n, r))) in
    simp to_z-of_z (difference_fits c.get.result c.get-in-loop-k.result s t)

pub overflow_add-total : goal.overflow_add-total
overflow_add-total c =
    let f : FitsSigned w128 c.get.result = search rules in
    let g : FitsSigned w128 c.get-in-loop-k.result = search rules in
    let e = c.len-k-end.ensures in
    let n = c.loop-k-test.true in
    let r = c.requires.lengths in
    let b = c.requires.long in
    let tot = to_z w128 c.loop-k.total-bits in
    let s : IsCoordinate c.get.result = subst IsCoordinate (sym c.get.ensures.value) (small_at c.args.x.now c.loop-k.k c.requires.x_small (omega (arith, e, n))) in
    let t : IsCoordinate c.get-in-loop-k.result = subst IsCoordinate (sym c.get-in-loop-k.ensures.value) (small_at c.args.m.now c.loop-k.k c.requires.m_small (omega (arith, e, n, r))) in
    let h : FitsSigned w128 (c.get.result -ℤ c.get-in-loop-k.result) = difference_fits c.get.result c.get-in-loop-k.result s t in
    simp to_z-of_z (total_fits tot c.get.result c.get-in-loop-k.result c.loop-k.k s t c.loop-k.invariant.high c.loop-k.invariant.low (omega (arith, e, n, b)))

pub loop-k-preserved : goal.loop-k-preserved
loop-k-preserved c =
    let f : FitsSigned w128 c.get.result = search rules in
    let g : FitsSigned w128 c.get-in-loop-k.result = search rules in
    let e = c.len-k-end.ensures in
    let n = c.loop-k-test.true in
    let r = c.requires.lengths in
    let b = c.requires.long in
    let tot = to_z w128 c.loop-k.total-bits in
    let s : IsCoordinate c.get.result = subst IsCoordinate (sym c.get.ensures.value) (small_at c.args.x.now c.loop-k.k c.requires.x_small (omega (arith, e, n))) in
    let t : IsCoordinate c.get-in-loop-k.result = subst IsCoordinate (sym c.get-in-loop-k.ensures.value) (small_at c.args.m.now c.loop-k.k c.requires.m_small (omega (arith, e, n, r))) in
    let h : FitsSigned w128 (c.get.result -ℤ c.get-in-loop-k.result) = difference_fits c.get.result c.get-in-loop-k.result s t in
    let a : FitsSigned w128 (tot +ℤ (c.get.result -ℤ c.get-in-loop-k.result)) = total_fits tot c.get.result c.get-in-loop-k.result c.loop-k.k s t c.loop-k.invariant.high c.loop-k.invariant.low (omega (arith, e, n, b)) in
    simp to_z-of_z (record {
      sum = ap₂ (λ p q. (tot +ℤ (p -ℤ q)) +ℤ left_sum c.args.x.now c.args.m.now (c.loop-k.k + 1)) c.get.ensures.value c.get-in-loop-k.ensures.value
          ∙ sum_more c.args.x.now c.args.m.now c.loop-k.k tot (sum_of (sub c.args.x.now c.args.m.now)) r (omega (arith, e, n)) c.loop-k.invariant.sum;
      high = total_high tot c.get.result c.get-in-loop-k.result c.loop-k.k s t c.loop-k.invariant.high;
      low = total_low tot c.get.result c.get-in-loop-k.result c.loop-k.k s t c.loop-k.invariant.low;
    })
