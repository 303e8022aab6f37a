use Rattle.std.proofs.Common.{rules, pos, get_or, FitsSigned, to_z-of_z, ◌-ℤ◌, arith}
use Rattle.std.specs.Int.{w128}
use Rattle.cayley.proofs.OneCell.EdgeRows.{small_fits, one_more}
use Rattle.int_vectors.proofs.Each.{all_each}
use Rattle.cayley.proofs.rows.push_differences.Goals as goal

pub overflow_sub-x : goal.overflow_sub-x
overflow_sub-x c =
    let fx : FitsSigned w128 (get_or c.args.to.now c.loop-k.k (pos 0)) = search rules in
    let fy : FitsSigned w128 (get_or c.args.from.now c.loop-k.k (pos 0)) = search rules in
    let l = c.requires.lengths in
    simp to_z-of_z (small_fits (get_or c.args.to.now c.loop-k.k (pos 0)) (get_or c.args.from.now c.loop-k.k (pos 0))
    (all_each _ _ c.requires.to_small c.loop-k.k (pos 0) c.loop-k-test.true) (all_each _ _ c.requires.from_small c.loop-k.k (pos 0) (omega arith)))

pub loop-k-preserved : goal.loop-k-preserved
loop-k-preserved c =
    let fx : FitsSigned w128 (get_or c.args.to.now c.loop-k.k (pos 0)) = search rules in
    let fy : FitsSigned w128 (get_or c.args.from.now c.loop-k.k (pos 0)) = search rules in
    let l = c.requires.lengths in
    let fd : FitsSigned w128 (get_or c.args.to.now c.loop-k.k (pos 0) -ℤ get_or c.args.from.now c.loop-k.k (pos 0)) =
    small_fits (get_or c.args.to.now c.loop-k.k (pos 0)) (get_or c.args.from.now c.loop-k.k (pos 0))
    (all_each _ _ c.requires.to_small c.loop-k.k (pos 0) c.loop-k-test.true) (all_each _ _ c.requires.from_small c.loop-k.k (pos 0) (omega arith)) in
    let d = simp to_z-of_z at c.in_ok-push.ensures in
    one_more c.args.row.now.items c.loop-k.row.items c.push.new.row.items c.args.to.now c.args.from.now c.loop-k.k c.loop-k.invariant d c.requires.lengths c.loop-k-test.true
