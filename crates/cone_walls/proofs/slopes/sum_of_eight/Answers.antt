use Rattle.std.proofs.Common.{rules, ◌≤◌, ◌∙◌, length, FitsSigned, to_z-of_z, arith}
use Rattle.std.specs.Int.{w64}
use Rattle.cone_walls.proofs.Drifts.{sum_end}
use Rattle.cone_walls.proofs.slopes.sum_of_eight.Goals as goal

pub returns : goal.returns
returns c =
    let fs : FitsSigned w64 c.args.start = c.ranges.start in
    let f1 : FitsSigned w64 c.with_place-t1.result = search rules in
    let f2 : FitsSigned w64 c.with_place-t2.result = search rules in
    let f3 : FitsSigned w64 c.with_place-t3.result = search rules in
    let f4 : FitsSigned w64 c.with_place-t4.result = search rules in
    let f5 : FitsSigned w64 c.with_place-t5.result = search rules in
    let f6 : FitsSigned w64 c.with_place-t6.result = search rules in
    let f7 : FitsSigned w64 c.with_place-t7.result = search rules in
    let f8 : FitsSigned w64 c.with_place.result = search rules in
    let v1 = simp to_z-of_z at c.with_place-t1.ensures.value in
    let v2 = simp to_z-of_z at c.with_place-t2.ensures.value in
    let v3 = simp to_z-of_z at c.with_place-t3.ensures.value in
    let v4 = simp to_z-of_z at c.with_place-t4.ensures.value in
    let v5 = simp to_z-of_z at c.with_place-t5.ensures.value in
    let v6 = simp to_z-of_z at c.with_place-t6.ensures.value in
    let v7 = simp to_z-of_z at c.with_place-t7.ensures.value in
    let v8 = simp to_z-of_z at c.with_place.ensures.value in
    let le : length c.args.v.now ≤ 8 = omega (arith, c.requires.eight) in
    simp to_z-of_z (sum_end c.args.start c.with_place.result c.args.c.now c.args.v.now 8 c.requires.length le (v8 ∙ v7 ∙ v6 ∙ v5 ∙ v4 ∙ v3 ∙ v2 ∙ v1))
