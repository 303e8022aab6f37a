use Rattle.std.proofs.Common.{◌≡◌, ◌<◌, ◌≤◌, ◌++◌, length, map, vec_len, take, IsPermutation}
use Rattle.std.specs.List.{All, flat_map}
use Rattle.crossbeam_deque.specs.Handles.{worker_deque}
use Rattle.branch_pool.specs.Parts.{IsOwner, IsQuiet, added, own_offered, own_taken, own_parts, pass_taken, pass_parts}
use Rattle.branch_pool.proofs.pool.gathering.absorbed.Given as goal

abbrev pub invariant-loop-pass : goal.invariant-loop-pass
invariant-loop-pass g l =
    (map (λ p. (p.rows, p.heap)) l.passes.items ≡ take (length l.passes.items) (map (λ w. worker_deque w) l.fn.workers.items))
    × (map (λ w. worker_deque w) l.workers.items ≡ map (λ w. worker_deque w) l.fn.workers.items)
    × All (λ w. IsOwner w × (0 < own_parts w)) l.workers.items
    × All IsQuiet l.passes.items
    × (map own_offered l.workers.items ≡ map own_offered l.fn.workers.items)
    × (added (map own_parts l.workers.items) (map pass_parts l.passes.items) ≡ added (map own_parts l.fn.workers.items) (map pass_parts l.fn.passes.items))
    × IsPermutation (flat_map own_taken l.fn.workers.items ++ flat_map pass_taken l.fn.passes.items) (flat_map own_taken l.workers.items ++ flat_map pass_taken l.passes.items)
    × (length l.passes.items ≤ length l.workers.items)

abbrev pub decreases-loop-pass : goal.decreases-loop-pass
decreases-loop-pass g l = vec_len l.passes
