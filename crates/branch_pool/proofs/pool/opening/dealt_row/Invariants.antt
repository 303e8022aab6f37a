use Rattle.std.proofs.Common.{◌≡◌, ◌≤◌, ◌-◌, length, map, take, vec_capacity, vec_len, None}
use Rattle.std.specs.List.{All}
use Rattle.crossbeam_deque.specs.Handles.{view, worker_deque, worker_view}
use Rattle.branch_pool.specs.Parts.{IsOwner, worker_views, pass_views}
use Rattle.branch_pool.proofs.pool.opening.dealt_row.Given as goal

abbrev pub invariant-loop-at : goal.invariant-loop-at
invariant-loop-at g l =
    (length l.workers.items ≡ l.count)
    × (map (λ w. worker_deque w) l.workers.items ≡ map (λ w. worker_deque w) l.fn.workers.items)
    × (map (λ w. worker_view w) l.workers.items ≡ worker_views l.count (l.number - 1) l.at l.count)
    × All (λ w. IsOwner w) l.workers.items
    × (map (λ p. (p.rows, p.heap)) l.passes.items ≡ take l.at (map (λ w. worker_deque w) l.fn.workers.items))
    × (map (λ p. view p) l.passes.items ≡ pass_views l.count l.number l.at)
    × All (λ p. (p.me.hand ≡ None) × (p.me.spare ≡ None)) l.passes.items
    × (vec_len l.passes ≡ l.at)
    × (l.count ≤ vec_capacity l.passes)
