use Rattle.std.proofs.Common.{rules}
use Rattle.std.specs.Prelude.{IsTrue}
use Rattle.cone_walls.proofs.Pushing.{pair_within, support_inside}
use Rattle.cone_walls.proofs.RestingLines.{rest_more}
use Rattle.cone_walls.proofs.rests.is_resting.Goals as goal

pub is_at_rest-requires-clause-greatest : goal.is_at_rest-requires-clause-greatest
is_at_rest-requires-clause-greatest c =
    support_inside c.args.problem.now c.args.cell.now c.pairs-pair-items.result.now c.pairs-pair-items.ensures.same c.requires c.loop-k.k c.loop-k-test.true c.dim-dim.ensures.valid

pub is_at_rest-requires-clause-position : goal.is_at_rest-requires-clause-position
is_at_rest-requires-clause-position c =
    pair_within c.args.normal.now c.args.problem.now c.args.cell.now c.pairs-pair-items.result.now c.pairs-pair-items.ensures.same c.requires c.loop-k.k c.loop-k-test.true

pub loop-k-preserved : goal.loop-k-preserved
loop-k-preserved c =
    let t : IsTrue c.is_at_rest.result = search rules in
    rest_more c.args.problem.now c.args.cell.now c.pairs-pair-items.result.now c.loop-k.k c.pairs-pair-items.ensures.same c.loop-k.invariant (c.is_at_rest.ensures t)
