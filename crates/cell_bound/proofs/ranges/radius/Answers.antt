use Rattle.cayley.specs.Valid.{support_at}
use Rattle.cell_bound.proofs.Spreads.{around_more}
use Rattle.cell_bound.proofs.ranges.radius.Goals as goal

pub loop-index-preserved : goal.loop-index-preserved
loop-index-preserved c =
    around_more (support_at c.args.problem.now c.args.i) c.args.position c.loop-index.index c.loop-index.front c.loop-index.further c.greater-front.result c.greater-further.result
    c.in_ok-own.own.front c.in_ok-own.own.further c.loop-index.invariant c.in_ok-own.ensures c.greater-front.ensures.a c.greater-further.ensures.a c.greater-front.ensures.b c.greater-further.ensures.b
