use Rattle.std.proofs.Common.{rules, arith, FitsSigned, to_z-of_z}
use Rattle.std.specs.Prelude.{pos, slice_index_or}
use Rattle.std.specs.Int.{w64}
use Rattle.int_vectors.proofs.Each.{same_read}
use Rattle.cayley.proofs.Ranking.MovedProblems.{next_points}
use Rattle.cayley.proofs.second_heights.moved_points.Goals as goal

pub loop-k-preserved : goal.loop-k-preserved
loop-k-preserved c =
    let h = slice_index_or c.args.second.now c.loop-k.k (pos 0) in
    let f : FitsSigned w64 h = search rules in
    let made = simp to_z-of_z at c.in_ok-point.ensures in
    let t = c.loop-k-test.true in
    let e = c.requires.count in
    next_points c.args.points.now c.args.second.now c.loop-k.made.items c.push.new.self.items c.loop-k.k c.index-points-k.result h c.in_ok-point.point
    c.index-points-k.is (same_read c.args.second.now c.loop-k.k (pos 0) h (omega (arith, t, e))) t e made c.loop-k.invariant c.in_default-push.ensures.items
