use Rattle.std.proofs.Common.{◌≡◌, ◌≤◌, length, map, take}
use Rattle.std.specs.List.{All}
use Rattle.crossbeam_deque.specs.Handles.{worker_view}
use Rattle.branch_pool.specs.Parts.{IsOwner, own_offered, own_taken, own_parts}
use Rattle.branch_pool.proofs.pool.gathering.learned.Given as goal

abbrev pub invariant-loop-at : goal.invariant-loop-at
invariant-loop-at g l =
    (map (λ w. worker_view w) l.workers.items ≡ map (λ w. worker_view w) l.fn.workers.items)
    × All (λ w. IsOwner w × (own_parts w ≡ 64)) l.workers.items
    × All (λ w. length (own_taken w) ≤ length (own_offered w)) (take l.at l.fn.workers.items)
