use Rattle.std.proofs.Common.{◌≤◌, arith}
use Rattle.int_vectors.specs.Bounds.{Within}
use Rattle.cayley.specs.declared.points.Point.{Point as StoredPoint}
use Rattle.cayley.proofs.Lists.Reaching.{more, all_taken, point_more}
use Rattle.cayley.proofs.reaches.farthest_of.Goals as goal
use Rattle.cayley.proofs.reaches.farthest_of.Goals.{then-own-most, else-own-most}

pub loop-x-preserved : goal.loop-x-preserved
loop-x-preserved c =
    let low : c.loop-x.most ≤ c.if-own-most.most = elim c.if-own-most.branch [
      | then-own-most w ↦ (let e = w.most-is in let h = w.if-own-most in omega (arith, e, h.true))
      | else-own-most w ↦ (let e = w.most-is in omega (arith, e))
    ] in
    let high : c.greatest-own.result ≤ c.if-own-most.most = elim c.if-own-most.branch [
      | then-own-most w ↦ (let e = w.most-is in omega (arith, e))
      | else-own-most w ↦ (let e = w.most-is in let h = w.if-own-most in omega (arith, e, h.false))
    ] in
    more (λ v (x : StoredPoint). Within v x.coords) point_more c.loop-x.most c.if-own-most.most c.greatest-own.result c.args.points.now c.loop-x.x-index c.x-item.result c.loop-x-test.true c.x-item.is low high c.loop-x.invariant c.greatest-own.ensures.bound

pub returns : goal.returns
returns c = all_taken (λ (x : StoredPoint). Within c.loop-x.most x.coords) c.args.points.now c.loop-x.x-index c.loop-x-test.false c.loop-x.invariant
