use Rattle.std.proofs.Common.{◌≡◌}
use Rattle.search_team.specs.Searchers.{IsJob}
use Rattle.search_team.specs.Walkers.{IsWalker}
use Rattle.search_team.proofs.turning.work.Given as goal

abbrev pub invariant-loop : goal.invariant-loop
invariant-loop g l =
    (goal.iterator-loop g).can_next l.iterator' × (goal.iterator-loop g).is_finite l.iterator'
    × IsWalker l.problem l.job.seat.offered l.walker
    × IsJob l.problem l.pool l.given.value.items l.job
    × (l.job.number ≡ l.fn.job.number)
