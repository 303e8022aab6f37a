use Rattle.std.proofs.Common.{rules, arith, FitsSigned, to_z-of_z, ap}
use Rattle.std.specs.Prelude.{pos, slice_index_or}
use Rattle.std.specs.Int.{w64}
use Rattle.int_vectors.proofs.Each.{same_read}
use Rattle.lift_move.proofs.Lifted.{next_lifted}
use Rattle.lift_move.proofs.second.lifted_points.Goals as goal

pub loop-k-preserved : goal.loop-k-preserved
loop-k-preserved c =
    let h = slice_index_or c.args.heights.now c.loop-k.k (pos 0) in
    let f : FitsSigned w64 h = search rules in
    let pushed = simp to_z-of_z at c.in_default-push.ensures.items in
    let t = c.loop-k-test.true in
    let e = c.requires in
    next_lifted c.args.points.now c.args.heights.now c.loop-k.made.items c.push.new.self.items c.loop-k.k c.index-points-k.result h _
    c.index-points-k.is (same_read c.args.heights.now c.loop-k.k (pos 0) h (omega (arith, t, e))) t e (ap (λ z. record { coordinates = z; height = h }) c.in_ok-coords.ensures) c.loop-k.invariant pushed
