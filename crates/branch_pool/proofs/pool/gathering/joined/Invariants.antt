use Rattle.std.proofs.Common.{◌≡◌, ◌<◌, ◌≤◌, ◌++◌, ◌-◌, ◌+◌, length, map, vec_len, reverse, IsPermutation}
use Rattle.std.specs.List.{All, flat_map, range_with_len}
use Rattle.crossbeam_deque.specs.Handles.{worker_deque}
use Rattle.branch_pool.specs.Parts.{IsOwner, Numbered, IsUsedRow, own_offered, own_taken, own_parts, pass_taken}
use Rattle.branch_pool.proofs.Joined.{gained}
use Rattle.branch_pool.proofs.pool.gathering.joined.Given as goal

abbrev pub invariant-loop-passes : goal.invariant-loop-passes
invariant-loop-passes g l =
    (map (λ w. worker_deque w) l.workers.items ≡ map (λ w. worker_deque w) l.fn.workers.items)
    × All (λ w. IsOwner w × (0 < own_parts w)) l.workers.items
    × (map own_offered l.workers.items ≡ map own_offered l.fn.workers.items)
    × (map own_parts l.workers.items ≡ map (λ k. gained (length l.fn.workers.items) (length l.fn.workers.items - vec_len l.rows) k) (range_with_len 1 (length l.fn.workers.items)))
    × Numbered (λ k r. IsUsedRow (map (λ w. worker_deque w) l.fn.workers.items) k r.items) (length l.fn.workers.items - vec_len l.rows + 1) (reverse l.rows.items)
    × IsPermutation (flat_map own_taken l.fn.workers.items ++ flat_map (λ r. flat_map pass_taken r.items) l.fn.rows.items) (flat_map own_taken l.workers.items ++ flat_map (λ r. flat_map pass_taken r.items) l.rows.items)
    × (vec_len l.rows ≤ length l.fn.workers.items)

abbrev pub decreases-loop-passes : goal.decreases-loop-passes
decreases-loop-passes g l = vec_len l.rows
