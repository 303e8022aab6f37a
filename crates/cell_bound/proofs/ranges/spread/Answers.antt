use Rattle.std.proofs.Common.{rules, pos, ◌-ℤ◌, get_or, FitsSigned, to_z-of_z, arith, sym}
use Rattle.std.specs.Int.{w128}
use Rattle.cayley.proofs.OneCell.EdgeRows.{small_fits}
use Rattle.int_vectors.proofs.Each.{all_each}
use Rattle.cell_bound.proofs.Spreads.{spread_more}
use Rattle.cell_bound.proofs.ranges.spread.Goals as goal

pub overflow_sub-difference : goal.overflow_sub-difference
overflow_sub-difference c =
    let fx : FitsSigned w128 (get_or c.args.c.now c.loop-k.k (pos 0)) = search rules in
    let fy : FitsSigned w128 (get_or c.args.a.now c.loop-k.k (pos 0)) = search rules in
    let l = c.requires.lengths in
    simp to_z-of_z (small_fits (get_or c.args.c.now c.loop-k.k (pos 0)) (get_or c.args.a.now c.loop-k.k (pos 0))
    (all_each _ _ c.requires.c_small c.loop-k.k (pos 0) c.loop-k-test.true) (all_each _ _ c.requires.a_small c.loop-k.k (pos 0) (omega arith)))

pub loop-k-preserved : goal.loop-k-preserved
loop-k-preserved c =
    let fx : FitsSigned w128 (get_or c.args.c.now c.loop-k.k (pos 0)) = search rules in
    let fy : FitsSigned w128 (get_or c.args.a.now c.loop-k.k (pos 0)) = search rules in
    let l = c.requires.lengths in
    let fd : FitsSigned w128 (get_or c.args.c.now c.loop-k.k (pos 0) -ℤ get_or c.args.a.now c.loop-k.k (pos 0)) =
    small_fits (get_or c.args.c.now c.loop-k.k (pos 0)) (get_or c.args.a.now c.loop-k.k (pos 0))
    (all_each _ _ c.requires.c_small c.loop-k.k (pos 0) c.loop-k-test.true) (all_each _ _ c.requires.a_small c.loop-k.k (pos 0) (omega arith)) in
    let u = simp to_z-of_z at c.unsigned_abs.ensures.value in
    spread_more c.args.c.now c.args.a.now c.loop-k.k c.loop-k.total c.in_ok-total.total c.unsigned_abs.result (sym l) c.loop-k-test.true c.loop-k.invariant u c.in_ok-total.ensures.1
