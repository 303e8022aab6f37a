use Rattle.std.proofs.Common.{rules, ◌∙◌, ◌<◌, ap, arith, FitsSigned, to_z}
use Rattle.std.proofs.Math.Facts.{to_z-of_z}
use Rattle.std.specs.Int.{w128, int_min}
use Rattle.cayley.specs.Stored.{held, point}
use Rattle.cayley.specs.Valid.{support_at, file_count_at}
use Rattle.start_system.specs.Corners.{points_at}
use Rattle.start_system.proofs.Judging.Supports.{support_of, file_first, held_at, count_points, checked_point}
use Rattle.start_system.proofs.Making.Least.{least_first, least_more, least_end}
use Rattle.start_system.proofs.checks.least_at.Goals as goal

pub point-requires-clause-last : goal.point-requires-clause-last
point-requires-clause-last c =
    let h = support_of c.args.problem.now c.requires.valid c.args.i c.requires.least c.requires.greatest in
    let f = file_first c.args.problem.now c.args.i h in
    let o = h.some in
    omega (arith, f, o)

pub get-least-requires : goal.get-least-requires
get-least-requires c =
    let p = c.args.problem.now in
    let h = support_of p c.requires.valid c.args.i c.requires.least c.requires.greatest in
    let e = (checked_point p c.args.i h 0 (point c.point.result.now) h.some c.point.ensures.value).0 in
    let k = c.requires.place in
    omega (arith, e, k)

pub loop-c-init : goal.loop-c-init
loop-c-init c =
    let p = c.args.problem.now in
    let i = c.args.i in
    let g : FitsSigned w128 c.get-least.result = search rules in
    let h = support_of p c.requires.valid i c.requires.least c.requires.greatest in
    let n = count_points p i h in
    let o = h.some in
    let x = point c.point.result.now in
    record {
      some = omega arith;
      least = simp to_z-of_z (c.get-least.ensures.value ∙ least_first c.args.k (points_at p i) (held x) (omega (arith, n, o)) (held_at (file_count_at p i) (support_at p i) 0 x (file_first p i h) h.some c.point.ensures.value));
    }

pub point-requires-in-loop-c-clause-last : goal.point-requires-in-loop-c-clause-last
point-requires-in-loop-c-clause-last c =
    let h = support_of c.args.problem.now c.requires.valid c.args.i c.requires.least c.requires.greatest in
    let f = file_first c.args.problem.now c.args.i h in
    let e = c.file_count-c-end.ensures in
    let n = c.loop-c-test.true in
    omega (arith, f, e, n)

pub get-requires : goal.get-requires
get-requires c =
    let p = c.args.problem.now in
    let h = support_of p c.requires.valid c.args.i c.requires.least c.requires.greatest in
    let a = c.file_count-c-end.ensures in
    let n = c.loop-c-test.true in
    let e = (checked_point p c.args.i h c.loop-c.c (point c.point-in-loop-c.result.now) (omega (arith, a, n)) c.point-in-loop-c.ensures.value).0 in
    let k = c.requires.place in
    omega (arith, e, k)

pub loop-c-preserved : goal.loop-c-preserved
loop-c-preserved c =
    let p = c.args.problem.now in
    let i = c.args.i in
    let f : FitsSigned w128 c.min-least.result = search rules in
    let g : FitsSigned w128 c.get.result = search rules in
    let t : FitsSigned w128 (to_z w128 c.loop-c.least-bits) = search rules in
    let h = support_of p c.requires.valid i c.requires.least c.requires.greatest in
    let n = count_points p i h in
    let a = c.file_count-c-end.ensures in
    let b = c.loop-c-test.true in
    let l : c.loop-c.c < file_count_at p i = omega (arith, a, b) in
    let x = point c.point-in-loop-c.result.now in
    let m = simp to_z-of_z at c.min-least.ensures in
    record {
      some = omega arith;
      least = simp to_z-of_z (m.value ∙ ap (int_min (to_z w128 c.loop-c.least-bits)) c.get.ensures.value
          ∙ least_more p.dimension c.args.k c.loop-c.c (points_at p i) (held x) (to_z w128 c.loop-c.least-bits) h.points c.requires.place c.loop-c.invariant.some (omega (arith, n, l))
          (held_at (file_count_at p i) (support_at p i) c.loop-c.c x (file_first p i h) l c.point-in-loop-c.ensures.value) c.loop-c.invariant.least);
    }

pub returns : goal.returns
returns c =
    let p = c.args.problem.now in
    let i = c.args.i in
    let h = support_of p c.requires.valid i c.requires.least c.requires.greatest in
    let n = count_points p i h in
    let a = c.file_count-c-end.ensures in
    let b = c.loop-c-test.false in
    least_end c.args.k c.loop-c.c (points_at p i) (to_z w128 c.loop-c.least-bits) (omega (arith, n, a, b)) c.loop-c.invariant.least
