use Rattle.branch_pool.specs.Seats.{taken_from}
use Rattle.search_team.proofs.Ready.{was_offered}
use Rattle.search_team.proofs.turning.next.Goals as goal

pub returns-in-Some-clause-own : goal.returns-in-Some-clause-own
returns-in-Some-clause-own g c = λ t.
    let held = c.in-Some.ensures.held in
    was_offered c.args.seat.now.offered (taken_from c.args.seat.now c.args.seat.now.number) held.0 c.in-Some.branch held.1
