use Rattle.std.proofs.Common.{◌≡◌, ◌≤◌, map, vec_capacity, vec_len}
use Rattle.std.specs.List.{All}
use Rattle.crossbeam_deque.specs.Handles.{worker_deque, worker_view, stealer_deque, stealer_flavor}
use Rattle.branch_pool.specs.Parts.{IsOwner, worker_views}
use Rattle.branch_pool.proofs.pool.opening.made.Given as goal

abbrev pub invariant-loop-turn : goal.invariant-loop-turn
invariant-loop-turn g l =
    (map (λ s. stealer_deque s) l.stealers.items ≡ map (λ w. worker_deque w) l.workers.items)
    × (map (λ w. worker_view w) l.workers.items ≡ worker_views l.count 0 0 l._turn)
    × All (λ w. IsOwner w) l.workers.items
    × All (λ s. stealer_flavor s ≡ 1) l.stealers.items
    × (vec_len l.workers ≡ l._turn)
    × (vec_len l.stealers ≡ l._turn)
    × (l.count ≤ vec_capacity l.workers)
    × (l.count ≤ vec_capacity l.stealers)

abbrev pub ghosts-settled : goal.ghosts-settled
ghosts-settled g a = record { seats = a._seats }
