use Rattle.std.proofs.Common.{◌≤◌, arith, subst}
use Rattle.std.specs.List.{All}
use Rattle.int_vectors.specs.Bounds.{Within}
use Rattle.cayley.specs.Reaches.{IsStoredReach}
use Rattle.cayley.specs.declared.points.Point.{Point as StoredPoint}
use Rattle.cayley.proofs.Lists.Reaching.{more, all_taken, support_more}
use Rattle.cayley.proofs.reaches.farthest.Goals as goal
use Rattle.cayley.proofs.reaches.farthest.Goals.{then-own-most, else-own-most}

pub loop-s-preserved : goal.loop-s-preserved
loop-s-preserved c =
    let low : c.loop-s.most ≤ c.if-own-most.most = elim c.if-own-most.branch [
      | then-own-most w ↦ (let e = w.most-is in let h = w.if-own-most in omega (arith, e, h.true))
      | else-own-most w ↦ (let e = w.most-is in omega (arith, e))
    ] in
    let high : c.farthest_of-own.result ≤ c.if-own-most.most = elim c.if-own-most.branch [
      | then-own-most w ↦ (let e = w.most-is in omega (arith, e))
      | else-own-most w ↦ (let e = w.most-is in let h = w.if-own-most in omega (arith, e, h.false))
    ] in
    more IsStoredReach support_more c.loop-s.most c.if-own-most.most c.farthest_of-own.result c.args.supports.now c.loop-s.s-index c.s-item.result c.loop-s-test.true c.s-item.is low high c.loop-s.invariant (subst (λ ps. All (λ (x : StoredPoint). Within c.farthest_of-own.result x.coords) ps) c.deref.ensures.value c.farthest_of-own.ensures)

pub returns : goal.returns
returns c = all_taken (IsStoredReach c.loop-s.most) c.args.supports.now c.loop-s.s-index c.loop-s-test.false c.loop-s.invariant
