use Rattle.std.proofs.Common.{rules, ◌≡◌, ◌∙◌, ◌<◌, sym, subst, arith, FitsSigned, to_z, ◌≤ℤ◌}
use Rattle.std.proofs.Math.Facts.{to_z-of_z}
use Rattle.std.proofs.Math.IntN.{pos}
use Rattle.std.specs.Int.{w128, int_max}
use Rattle.cayley.specs.Stored.{held, point}
use Rattle.cayley.specs.Valid.{support_at, file_count_at}
use Rattle.start_system.specs.Corners.{points_at}
use Rattle.start_system.proofs.Judging.Supports.{support_of, file_first, held_at, count_points, checked_point}
use Rattle.start_system.proofs.Making.Least.{reach_more, reach_end, most_least, most_greatest, max_chosen}
use Rattle.start_system.proofs.checks.reach.Goals as goal

pub point-requires-clause-last : goal.point-requires-clause-last
point-requires-clause-last c =
    let h = support_of c.args.problem.now c.requires.valid c.args.i c.requires.least c.requires.greatest in
    let f = file_first c.args.problem.now c.args.i h in
    let e = c.file_count-c-end.ensures in
    let n = c.loop-c-test.true in
    omega (arith, f, e, n)

pub sum_above-requires-clause-long : goal.sum_above-requires-clause-long
sum_above-requires-clause-long c =
    let p = c.args.problem.now in
    let h = support_of p c.requires.valid c.args.i c.requires.least c.requires.greatest in
    let a = c.file_count-c-end.ensures in
    let b = c.loop-c-test.true in
    let e = (checked_point p c.args.i h c.loop-c.c (point c.point.result.now) (omega (arith, a, b)) c.point.ensures.value).0 in
    let d = c.requires.valid.shape.dimension.1 in
    omega (arith, e, d)

pub sum_above-requires-clause-lengths : goal.sum_above-requires-clause-lengths
sum_above-requires-clause-lengths c =
    let p = c.args.problem.now in
    let h = support_of p c.requires.valid c.args.i c.requires.least c.requires.greatest in
    let a = c.file_count-c-end.ensures in
    let b = c.loop-c-test.true in
    (checked_point p c.args.i h c.loop-c.c (point c.point.result.now) (omega (arith, a, b)) c.point.ensures.value).0 ∙ sym c.requires.length

pub sum_above-requires-clause-x_small : goal.sum_above-requires-clause-x_small
sum_above-requires-clause-x_small c =
    let p = c.args.problem.now in
    let h = support_of p c.requires.valid c.args.i c.requires.least c.requires.greatest in
    let a = c.file_count-c-end.ensures in
    let b = c.loop-c-test.true in
    (checked_point p c.args.i h c.loop-c.c (point c.point.result.now) (omega (arith, a, b)) c.point.ensures.value).1

pub loop-c-preserved : goal.loop-c-preserved
loop-c-preserved c =
    let p = c.args.problem.now in
    let i = c.args.i in
    let f : FitsSigned w128 c.max-most.result = search rules in
    let g : FitsSigned w128 c.sum_above.result = search rules in
    let t : FitsSigned w128 (to_z w128 c.loop-c.most-bits) = search rules in
    let h = support_of p c.requires.valid i c.requires.least c.requires.greatest in
    let n = count_points p i h in
    let a = c.file_count-c-end.ensures in
    let b = c.loop-c-test.true in
    let l : c.loop-c.c < file_count_at p i = omega (arith, a, b) in
    let x = point c.point.result.now in
    let most = to_z w128 c.loop-c.most-bits in
    let s = c.sum_above.result in
    let m : c.max-most.result ≡ int_max most s = (simp to_z-of_z at c.max-most.ensures) ∙ max_chosen most s in
    simp to_z-of_z (record {
      value = m ∙ reach_more c.args.m.now c.loop-c.c (points_at p i) (held x) most s (omega (arith, n, l)) (held_at (file_count_at p i) (support_at p i) c.loop-c.c x (file_first p i h) l c.point.ensures.value)
          c.sum_above.ensures.value c.loop-c.invariant.value;
      least = subst (λ z. pos 1 ≤ℤ z) (sym m) (most_least most s c.loop-c.invariant.least);
      greatest = subst (λ z. z ≤ℤ pos 32000000) (sym m) (most_greatest most s c.loop-c.invariant.greatest c.sum_above.ensures.most);
    })

pub returns-clause-value : goal.returns-clause-value
returns-clause-value c =
    let p = c.args.problem.now in
    let i = c.args.i in
    let h = support_of p c.requires.valid i c.requires.least c.requires.greatest in
    let n = count_points p i h in
    let a = c.file_count-c-end.ensures in
    let b = c.loop-c-test.false in
    reach_end c.args.m.now c.loop-c.c (points_at p i) (to_z w128 c.loop-c.most-bits) (omega (arith, n, a, b)) c.loop-c.invariant.value
