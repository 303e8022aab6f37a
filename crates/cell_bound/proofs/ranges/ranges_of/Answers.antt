use Rattle.std.proofs.Common.{arith, sym}
use Rattle.cell_bound.proofs.Spreads.{bounds_start, bounds_more, bounds_end}
use Rattle.cell_bound.proofs.ranges.ranges_of.Goals as goal

pub loop-k-init : goal.loop-k-init
loop-k-init c = bounds_start c.args.problem.now.dimension c.args.problem.now.supports c.dim-dim.ensures.valid.shape.problem.supports

pub loop-k-preserved : goal.loop-k-preserved
loop-k-preserved c =
    let v = c.dim-dim.ensures.value in
    let t = c.loop-k-test.true in
    bounds_more c.args.problem.now c.args.problem.now.dimension c.loop-k.k c.in_ok-own.own.front c.in_ok-own.own.further c.loop-k.front c.loop-k.further c.in_ok-new.new c.in_ok-kept.kept c.in_ok-further.further c.in_ok-front.front
    c.dim-dim.ensures.valid.shape.problem.supports (omega (arith, v, t)) (rw (sym v) c.in_ok-own.ensures) c.in_ok-new.ensures.1 c.in_ok-kept.ensures.1 c.in_ok-further.ensures.1 c.in_ok-front.ensures.1 c.loop-k.invariant

pub returns : goal.returns
returns c =
    let v = c.dim-dim.ensures.value in
    let t = c.loop-k-test.false in
    bounds_end c.args.problem.now c.args.problem.now.dimension c.loop-k.k c.loop-k.front c.loop-k.further (omega (arith, v, t)) c.loop-k.invariant
