use Rattle.std.proofs.Common.{◌≡◌, ◌≤◌, ◌++◌, length, drop, List, arith, sym, subst, length-append, Global, IsPermutation}
use Rattle.std.specs.List.{flat_map}
use Rattle.std.proofs.lemmas.List.Sorted.{length_permutation}
use Rattle.crossbeam_deque.specs.declared.handles.Worker.{Worker}
use Rattle.branch_pool.specs.declared.rule.SeatView.{SeatView}
use Rattle.branch_pool.specs.declared.rule.PoolRule.{PoolRule}
use Rattle.branch_pool.specs.Parts.{IsOwner, own_offered, own_taken, own_parts}
use Rattle.branch_pool.proofs.Fresh.{all_pop}
use Rattle.branch_pool.proofs.Joined.{sum_popped, sum_le, prefix_popped, more_emptied}
use Rattle.branch_pool.proofs.pool.gathering.emptied.Goals as goal

pub drained-requires-clause-room : goal.drained-requires-clause-room
drained-requires-clause-room g c =
    let i = c.loop-own.invariant in
    let xs = c.pop.new.self.items in
    let ys = c.loop-own.workers.items in
    let w = c.in-Some.own in
    let items = c.in-Some.ensures.items in
    let pop = all_pop (λ (w : Worker g.row.B.Denot Global (SeatView g.row.B.Denot) PoolRule). IsOwner w × (own_parts w ≡ 64) × (length (own_taken w) ≤ length (own_offered w))) xs ys w items i.1 in
    let so = sum_popped (λ (w : Worker g.row.B.Denot Global (SeatView g.row.B.Denot) PoolRule). length (own_offered w)) xs ys w items in
    let st = sum_popped (λ (w : Worker g.row.B.Denot Global (SeatView g.row.B.Denot) PoolRule). length (own_taken w)) xs ys w items in
    let le = sum_le (λ (w : Worker g.row.B.Denot Global (SeatView g.row.B.Denot) PoolRule). length (own_taken w)) (λ (w : Worker g.row.B.Denot Global (SeatView g.row.B.Denot) PoolRule). length (own_offered w)) xs (λ k d lt. (pop.0 k d lt).2) in
    omega (arith, so, st, le, i.2)

pub loop-own-preserved : goal.loop-own-preserved
loop-own-preserved g c =
    let i = c.loop-own.invariant in
    let xs = c.pop.new.self.items in
    let ys = c.loop-own.workers.items in
    let zs = c.args.workers.items in
    let w = c.in-Some.own in
    let items = c.in-Some.ensures.items in
    let pop = all_pop (λ (w : Worker g.row.B.Denot Global (SeatView g.row.B.Denot) PoolRule). IsOwner w × (own_parts w ≡ 64) × (length (own_taken w) ≤ length (own_offered w))) xs ys w items i.1 in
    let so = sum_popped (λ (w : Worker g.row.B.Denot Global (SeatView g.row.B.Denot) PoolRule). length (own_offered w)) xs ys w items in
    let st = sum_popped (λ (w : Worker g.row.B.Denot Global (SeatView g.row.B.Denot) PoolRule). length (own_taken w)) xs ys w items in
    let prefix = prefix_popped xs ys zs w items i.0 in
    let kept = c.drained.ensures.kept in
    let n : length (c.drained.new.left.items ++ own_taken w) ≡ length (own_offered w ++ c.loop-own.left.items) = length_permutation _ _ kept in
    let more = more_emptied (own_offered w) (flat_map own_offered (drop (length ys) zs)) c.args.left.now.items c.loop-own.left.items c.drained.new.left.items (own_taken w) (flat_map own_taken (drop (length ys) zs)) i.3 kept in (
      prefix.0,
      pop.0,
      omega (arith, so, st, n, i.2, c.drained.ensures.room, length-append c.drained.new.left.items (own_taken w), length-append (own_offered w) c.loop-own.left.items),
      subst (λ (l : List (Worker g.row.B.Denot Global (SeatView g.row.B.Denot) PoolRule)). IsPermutation (flat_map own_offered l ++ c.args.left.now.items) (c.drained.new.left.items ++ flat_map own_taken l)) (sym prefix.1) more,
    )
