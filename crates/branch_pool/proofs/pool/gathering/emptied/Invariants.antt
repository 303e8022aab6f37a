use Rattle.std.proofs.Common.{◌≡◌, ◌≤◌, ◌++◌, ◌+◌, length, take, drop, vec_len, vec_capacity, IsPermutation}
use Rattle.std.specs.List.{All, flat_map, sum_by}
use Rattle.branch_pool.specs.Parts.{IsOwner, own_offered, own_taken, own_parts}
use Rattle.branch_pool.proofs.pool.gathering.emptied.Given as goal

abbrev pub invariant-loop-own : goal.invariant-loop-own
invariant-loop-own g l =
    (l.workers.items ≡ take (length l.workers.items) l.fn.workers.items)
    × All (λ w. IsOwner w × (own_parts w ≡ 64) × (length (own_taken w) ≤ length (own_offered w))) l.workers.items
    × (sum_by (λ w. length (own_offered w)) l.workers.items + length l.left.items ≤ sum_by (λ w. length (own_taken w)) l.workers.items + vec_capacity l.left)
    × IsPermutation (flat_map own_offered (drop (length l.workers.items) l.fn.workers.items) ++ l.fn.left.items) (l.left.items ++ flat_map own_taken (drop (length l.workers.items) l.fn.workers.items))

abbrev pub decreases-loop-own : goal.decreases-loop-own
decreases-loop-own g l = vec_len l.workers
