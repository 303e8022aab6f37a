use Rattle.std.proofs.Common.{◌≡◌, ◌++◌, [], None, length}
use Rattle.std.specs.Prelude.{IsPermutation}
use Rattle.branch_pool.specs.Seats.{all_taken}
use Rattle.search_team.proofs.opening.offered.Given as goal

abbrev pub invariant-loop-branch : goal.invariant-loop-branch
invariant-loop-branch l =
    IsPermutation l.fn.branches.items (l.job.seat.offered ++ l.branches.items)
    × (l.job.number ≡ l.fn.job.number) × (l.job.seat.number ≡ l.fn.job.seat.number) × (l.job.seat.deques ≡ l.fn.job.seat.deques)
    × (all_taken l.job.seat ≡ all_taken l.fn.job.seat) × (l.job.found ≡ l.fn.job.found) × (l.job.solves ≡ l.fn.job.solves)
    × (l.job.hand.items ≡ []) × (l.job.report ≡ None)

abbrev pub decreases-loop-branch : goal.decreases-loop-branch
decreases-loop-branch l = length l.branches.items
