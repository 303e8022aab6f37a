use Rattle.std.proofs.Common.{◌≡◌, ◌≤◌, ◌++◌, ◌-◌, ◌+◌, length, map, take, reverse, vec_len, vec_capacity, IsPermutation}
use Rattle.std.specs.List.{All, flat_map}
use Rattle.crossbeam_deque.specs.Handles.{worker_deque}
use Rattle.branch_pool.specs.Parts.{IsOwner, Numbered, IsUsedRow, own_offered, own_taken, own_parts, pass_taken}
use Rattle.branch_pool.specs.Seats.{IsSeatOf, taken_by}
use Rattle.branch_pool.proofs.pool.gathering.parted.Given as goal

abbrev pub invariant-loop-seat : goal.invariant-loop-seat
invariant-loop-seat g l =
    All (λ s. IsSeatOf l.pool s) l.seats.items
    × Numbered (λ k s. s.number ≡ k) 1 l.seats.items
    × (l.pool.deques ≡ take (length l.seats.items) l.pool.deques ++ map (λ w. worker_deque w) (reverse l.workers.items))
    × All (λ w. IsOwner w × (own_parts w ≡ 65 - length l.pool.deques)) l.workers.items
    × Numbered (λ k r. IsUsedRow l.pool.deques k r.items) (length l.seats.items + 1) (reverse l.rows.items)
    × (map (λ s. s.offered) l.fn.seats.items ≡ map (λ s. s.offered) l.seats.items ++ map own_offered (reverse l.workers.items))
    × IsPermutation (taken_by l.fn.seats.items) (taken_by l.seats.items ++ (flat_map own_taken l.workers.items ++ flat_map (λ r. flat_map pass_taken r.items) l.rows.items))
    × (vec_len l.workers + length l.seats.items ≡ length l.fn.seats.items)
    × (vec_len l.rows + length l.seats.items ≡ length l.fn.seats.items)
    × (length l.fn.seats.items ≤ vec_capacity l.workers)
    × (length l.fn.seats.items ≤ vec_capacity l.rows)

abbrev pub decreases-loop-seat : goal.decreases-loop-seat
decreases-loop-seat g l = vec_len l.seats
