use Rattle.std.proofs.Common.{rules, ◌≡◌, ◌∙◌, ◌<◌, map, length, sym, subst, arith, FitsSigned, to_z, ◌≤ℤ◌}
use Rattle.std.proofs.Math.Facts.{to_z-of_z}
use Rattle.std.proofs.Math.IntN.{pos}
use Rattle.std.specs.Int.{w128, int_max}
use Rattle.std.proofs.lemmas.List.{length-map}
use Rattle.cayley.specs.Stored.{file_point}
use Rattle.start_system.proofs.Making.Least.{stored_at, stored_point, reach_more, reach_end, most_least, most_greatest, max_chosen}
use Rattle.start_system.proofs.corners.reach.Goals as goal

pub sum_above-requires-clause-long : goal.sum_above-requires-clause-long
sum_above-requires-clause-long c =
    let n = c.requires.dimension in
    let l : c.loop-x.x-index < length c.args.points.now = search rules in
    let e = (stored_point c.args.dim c.args.points.now c.loop-x.x-index c.x-item.result c.requires.points l c.x-item.is).0 in
    omega (arith, e, n)

pub sum_above-requires-clause-lengths : goal.sum_above-requires-clause-lengths
sum_above-requires-clause-lengths c =
    let l : c.loop-x.x-index < length c.args.points.now = search rules in
    (stored_point c.args.dim c.args.points.now c.loop-x.x-index c.x-item.result c.requires.points l c.x-item.is).0 ∙ sym c.requires.length

pub sum_above-requires-clause-x_small : goal.sum_above-requires-clause-x_small
sum_above-requires-clause-x_small c =
    let l : c.loop-x.x-index < length c.args.points.now = search rules in
    (stored_point c.args.dim c.args.points.now c.loop-x.x-index c.x-item.result c.requires.points l c.x-item.is).1

pub loop-x-preserved : goal.loop-x-preserved
loop-x-preserved c =
    let f : FitsSigned w128 c.max-most.result = search rules in
    let g : FitsSigned w128 c.sum_above.result = search rules in
    let t : FitsSigned w128 (to_z w128 c.loop-x.most-bits) = search rules in
    let l : c.loop-x.x-index < length c.args.points.now = search rules in
    let k = length-map c.args.points.now file_point in
    let x = c.x-item.result in
    let most = to_z w128 c.loop-x.most-bits in
    let s = c.sum_above.result in
    let m : c.max-most.result ≡ int_max most s = (simp to_z-of_z at c.max-most.ensures) ∙ max_chosen most s in
    simp to_z-of_z (record {
      value = m ∙ reach_more c.args.m.now c.loop-x.x-index (map file_point c.args.points.now) (file_point x) most s (omega (arith, k, l)) (stored_at c.args.points.now c.loop-x.x-index x l c.x-item.is) c.sum_above.ensures.value c.loop-x.invariant.value;
      least = subst (λ z. pos 1 ≤ℤ z) (sym m) (most_least most s c.loop-x.invariant.least);
      greatest = subst (λ z. z ≤ℤ pos 32000000) (sym m) (most_greatest most s c.loop-x.invariant.greatest c.sum_above.ensures.most);
    })

pub returns-clause-value : goal.returns-clause-value
returns-clause-value c =
    let k = length-map c.args.points.now file_point in
    let n = c.loop-x-test.false in
    reach_end c.args.m.now c.loop-x.x-index (map file_point c.args.points.now) (to_z w128 c.loop-x.most-bits) (omega (arith, k, n)) c.loop-x.invariant.value
