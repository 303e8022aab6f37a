use Rattle.std.proofs.Common.{◌≡◌, ◌≤◌, ◌-◌, ◌+◌, [], length, slice_index_or, map, vec_capacity, vec_len, reverse}
use Rattle.std.specs.List.{All, range_with_len}
use Rattle.crossbeam_deque.specs.Handles.{worker_deque, worker_view}
use Rattle.branch_pool.specs.Rule.{view_of}
use Rattle.branch_pool.specs.Parts.{IsOwner, Numbered, IsRow}
use Rattle.branch_pool.specs.Seats.{fresh_seat}
use Rattle.branch_pool.proofs.pool.opening.seated.Given as goal

abbrev pub invariant-loop-own : goal.invariant-loop-own
invariant-loop-own g l =
    Numbered (λ k w. slice_index_or (map (λ w. worker_deque w) l.fn.workers.items) (k - 1) (worker_deque w) ≡ worker_deque w) 1 l.workers.items
    × All (λ w. IsOwner w × (worker_view w ≡ view_of (length l.fn.workers.items) (65 - length l.fn.workers.items) [] [])) l.workers.items
    × Numbered (λ k r. IsRow (map (λ w. worker_deque w) l.fn.workers.items) k r.items) 1 l.rows.items
    × (vec_len l.rows ≡ vec_len l.workers)
    × (reverse l.list.items ≡ map (λ k. fresh_seat (map (λ w. worker_deque w) l.fn.workers.items) k) (range_with_len (1 + vec_len l.workers) (length l.fn.workers.items - vec_len l.workers)))
    × (vec_len l.list + vec_len l.workers ≡ length l.fn.workers.items)
    × (length l.fn.workers.items ≤ vec_capacity l.list)

abbrev pub decreases-loop-own : goal.decreases-loop-own
decreases-loop-own g l = vec_len l.workers
