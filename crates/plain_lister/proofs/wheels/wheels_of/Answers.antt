use Rattle.plain_lister.proofs.Shown.{show_next, pairs_at, small_at}
use Rattle.plain_lister.proofs.wheels.wheels_of.Goals as goal

pub new-requires-clause-least : goal.new-requires-clause-least
new-requires-clause-least c = pairs_at c.loop-count.count-index c.args.counts.now c.loop-count-test.true c.requires.pairs

pub new-requires-clause-greatest : goal.new-requires-clause-greatest
new-requires-clause-greatest c = small_at c.loop-count.count-index c.args.counts.now c.loop-count-test.true c.requires.small

pub loop-count-preserved : goal.loop-count-preserved
loop-count-preserved c =
    rw c.in_ok-push.ensures.items (show_next c.loop-count.count-index c.args.counts.now c.loop-count.wheels.items c.in_ok-new.field-0 c.loop-count-test.true c.loop-count.invariant c.in_ok-new.ensures)
