use Rattle.plain_lister.proofs.Growing.{more_firsts}
use Rattle.plain_lister.proofs.lists.first_choice.Goals as goal

pub loop-count-preserved : goal.loop-count-preserved
loop-count-preserved c =
    more_firsts c.loop-count._count-index c.args.counts.now c.loop-count.pairs.items c.push.new.self.items c.loop-count-test.true c.loop-count.invariant c.in_ok-push.ensures.items
