use Rattle.std.proofs.Common.{◌≡◌, ◌++◌, vec_capacity, IsPermutation, ◌+◌, ◌-◌, length}
use Rattle.crossbeam_deque.specs.Handles.{worker_view}
use Rattle.branch_pool.specs.Parts.{IsOwner}
use Rattle.branch_pool.proofs.pool.gathering.drained.Given as goal

abbrev pub invariant-loop-branch : goal.invariant-loop-branch
invariant-loop-branch g l =
    IsOwner l.own
    × ((worker_view l.own).parts ≡ 64)
    × ((worker_view l.own).offered ≡ (worker_view l.fn.own).offered)
    × IsPermutation ((worker_view l.fn.own).taken ++ l.left.items) (l.fn.left.items ++ (worker_view l.own).taken)
    × (length (worker_view l.fn.own).taken + length l.left.items ≡ length l.fn.left.items + length (worker_view l.own).taken)
    × (vec_capacity l.left ≡ vec_capacity l.fn.left)

abbrev pub decreases-loop-branch : goal.decreases-loop-branch
decreases-loop-branch g l = length (worker_view l.own).offered - length (worker_view l.own).taken
