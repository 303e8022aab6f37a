use Rattle.branch_pool.specs.Seats.{fresh_seat}
use Rattle.branch_pool.proofs.Pair.{two_popped}
use Rattle.branch_pool.proofs.tests.pair.Goals as goal

pub returns : goal.returns
returns g c =
    let ds = c.in_ok-pool.pool.deques in
    let two = two_popped c.in_ok-pool.seats.items c.pop-2.new.self.items c.pop.new.self.items (fresh_seat ds 1) (fresh_seat ds 2) c.in-Some-pop.first c.in-Some.second c.in_ok-pool.ensures.fresh c.in-Some.ensures.items c.in-Some-pop.ensures.items in
    (two.1, two.2, c.in_ok-pool.ensures.pool)
