use Rattle.std.proofs.Common.{◌≡◌, ◌≤◌, ◌-◌, ◌+◌, length, map, vec_capacity, vec_len}
use Rattle.std.specs.List.{All}
use Rattle.crossbeam_deque.specs.Handles.{worker_deque, worker_view, stealer_deque}
use Rattle.branch_pool.specs.Parts.{IsOwner, worker_views, Numbered, IsRow}
use Rattle.branch_pool.proofs.pool.opening.opened.Given as goal

abbrev pub invariant-loop-number : goal.invariant-loop-number
invariant-loop-number g l =
    (map (λ s. stealer_deque s) l.stealers.items ≡ map (λ w. worker_deque w) l.workers.items)
    × (map (λ w. worker_view w) l.workers.items ≡ worker_views l.count (l.number - 1) 0 l.count)
    × (length l.workers.items ≡ l.count)
    × All (λ w. IsOwner w) l.workers.items
    × Numbered (λ k r. IsRow (map (λ s. stealer_deque s) l.stealers.items) k r.items) 1 l.rows.items
    × (vec_len l.rows + 1 ≡ l.number)
    × (l.count ≤ vec_capacity l.rows)
