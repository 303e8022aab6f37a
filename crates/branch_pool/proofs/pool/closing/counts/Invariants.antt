use Rattle.std.proofs.Common.{◌≡◌, ◌≤◌, ◌*◌, ◌-◌, ◌^◌, length, min, take}
use Rattle.std.specs.List.{sum_by}
use Rattle.branch_pool.specs.Seats.{all_taken}
use Rattle.branch_pool.proofs.pool.closing.counts.Given as goal

abbrev pub invariant-loop-seat : goal.invariant-loop-seat
invariant-loop-seat g l =
    (l.offered ≡ sum_by (λ s. length s.offered) (take l.seat-index l.seats.items))
    × (l.taken ≡ sum_by (λ s. min (length (all_taken s)) (2 ^ 64 - 1)) (take l.seat-index l.seats.items))
    × (l.offered ≤ l.seat-index * (2 ^ 64 - 1))
    × (l.taken ≤ l.seat-index * (2 ^ 64 - 1))
