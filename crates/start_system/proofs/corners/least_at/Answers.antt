use Rattle.std.proofs.Common.{rules, ◌≡◌, ◌∙◌, ◌<◌, ap, map, length, sym, subst, arith, FitsSigned, to_z}
use Rattle.std.proofs.Math.Facts.{to_z-of_z}
use Rattle.std.specs.Int.{w128, int_min}
use Rattle.std.proofs.lemmas.List.{length-map}
use Rattle.int_vectors.specs.Vectors.{at}
use Rattle.cayley.specs.Stored.{file_point}
use Rattle.start_system.proofs.Making.Least.{stored_at, stored_point, least_more, least_end}
use Rattle.start_system.proofs.corners.least_at.Goals as goal

pub get-requires : goal.get-requires
get-requires c =
    let n = c.requires.place in
    let l : c.loop-c.c < length c.args.points.now = search rules in
    let e = (stored_point c.args.dim c.args.points.now c.loop-c.c c.index-points-c.result c.requires.points l c.index-points-c.is).0 in
    subst (λ x. c.args.k < length x.coords) c.index-points-c.is (omega (arith, e, n))

pub loop-c-preserved : goal.loop-c-preserved
loop-c-preserved c =
    let f : FitsSigned w128 c.min-least.result = search rules in
    let g : FitsSigned w128 c.get.result = search rules in
    let t : FitsSigned w128 (to_z w128 c.loop-c.least-bits) = search rules in
    let l : c.loop-c.c < length c.args.points.now = search rules in
    let k = length-map c.args.points.now file_point in
    let x = c.index-points-c.result in
    let m = simp to_z-of_z at c.min-least.ensures in
    let v : c.get.result ≡ at x.coords c.args.k = c.get.ensures.value ∙ ap (λ y. at y.coords c.args.k) (sym c.index-points-c.is) in
    record {
      some = omega arith;
      least = simp to_z-of_z (m.value ∙ ap (int_min (to_z w128 c.loop-c.least-bits)) v
          ∙ least_more c.args.dim c.args.k c.loop-c.c (map file_point c.args.points.now) (file_point x) (to_z w128 c.loop-c.least-bits) c.requires.points c.requires.place c.loop-c.invariant.some (omega (arith, k, l))
          (stored_at c.args.points.now c.loop-c.c x l c.index-points-c.is) c.loop-c.invariant.least);
    }

pub returns : goal.returns
returns c =
    let k = length-map c.args.points.now file_point in
    let n = c.loop-c-test.false in
    least_end c.args.k c.loop-c.c (map file_point c.args.points.now) (to_z w128 c.loop-c.least-bits) (omega (arith, k, n)) c.loop-c.invariant.least
