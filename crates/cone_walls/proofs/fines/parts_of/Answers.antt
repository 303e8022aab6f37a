use Rattle.std.proofs.Common.{rules, ◌-◌, ◌<◌, length, arith, ap, FitsSigned, to_z-of_z}
use Rattle.std.specs.Int.{w128}
use Rattle.inner_normal.specs.Coefficients.{pairs_of}
use Rattle.inner_normal.proofs.PairLists.{pairs_count}
use Rattle.cone_walls.proofs.Pushing.{support_inside}
use Rattle.cone_walls.proofs.Fining.{pair_inside, more_points, last_points}
use Rattle.cone_walls.proofs.fines.parts_of.Goals as goal

pub push_points-requires-clause-greatest : goal.push_points-requires-clause-greatest
push_points-requires-clause-greatest c =
    support_inside c.args.problem.now c.args.cell.now c.pairs-pair-items.result.now c.pairs-pair-items.ensures.same c.requires.of c.loop-k.k c.loop-k-test.true c.dim-dim.ensures.valid

pub push_points-requires-clause-pair : goal.push_points-requires-clause-pair
push_points-requires-clause-pair c =
    pair_inside c.args.problem.now c.args.cell.now c.pairs-pair-items.result.now c.pairs-pair-items.ensures.same c.requires.of c.loop-k.k c.loop-k-test.true

pub loop-k-preserved : goal.loop-k-preserved
loop-k-preserved c =
    let e = pairs_count c.args.numbers.now (length c.args.cell.now) c.requires.count in
    let s = ap length c.pairs-pair-items.ensures.same in
    let t : c.loop-k.k < length c.pairs-pair-items.result.now = c.loop-k-test.true in
    more_points c.args.problem.now c.args.cell.now c.pairs-pair-items.result.now c.pairs-pair-items.ensures.same c.requires.of c.loop-k.k c.loop-k-test.true
    (c.args.support - 1) c.args.position _ (pairs_of c.args.numbers.now) (omega (arith, e, s, t)) c.loop-k.parts.items c.push_points.new.parts.items _ c.loop-k.invariant (rw c.numbers_at-both.ensures at c.in_ok-push_points.ensures)

pub returns : goal.returns
returns c =
    let e = pairs_count c.args.numbers.now (length c.args.cell.now) c.requires.count in
    let s = ap length c.pairs-pair-items.ensures.same in
    let f : FitsSigned w128 c.args.last = search rules in
    last_points c.loop-k.k (c.args.support - 1) c.args.position c.args.last (pairs_of c.args.numbers.now) c.args.problem.now.supports c.args.cell.now _ _ (omega (arith, e, s)) (simp to_z-of_z at c.loop-k.invariant)
