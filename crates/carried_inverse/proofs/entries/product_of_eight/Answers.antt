use Rattle.std.proofs.Common.{rules, ◌≤◌, ◌∙◌, length, FitsSigned, to_z-of_z, arith}
use Rattle.std.specs.Int.{w64}
use Rattle.carried_inverse.proofs.EntrySteps.{dot_end}
use Rattle.carried_inverse.proofs.entries.product_of_eight.Goals as goal

pub returns : goal.returns
returns c =
    let fa : FitsSigned w64 c.plus_place-a.result = search rules in
    let fb : FitsSigned w64 c.plus_place-b.result = search rules in
    let fc : FitsSigned w64 c.plus_place-c.result = search rules in
    let fd : FitsSigned w64 c.plus_place-d.result = search rules in
    let fe : FitsSigned w64 c.plus_place-e.result = search rules in
    let ff : FitsSigned w64 c.plus_place-f.result = search rules in
    let fg : FitsSigned w64 c.plus_place-g.result = search rules in
    let fh : FitsSigned w64 c.plus_place.result = search rules in
    let va = c.plus_place-a.ensures.value in
    let vb = simp to_z-of_z at c.plus_place-b.ensures.value in
    let vc = simp to_z-of_z at c.plus_place-c.ensures.value in
    let vd = simp to_z-of_z at c.plus_place-d.ensures.value in
    let ve = simp to_z-of_z at c.plus_place-e.ensures.value in
    let vf = simp to_z-of_z at c.plus_place-f.ensures.value in
    let vg = simp to_z-of_z at c.plus_place-g.ensures.value in
    let vh = simp to_z-of_z at c.plus_place.ensures.value in
    let le : length c.args.column.now ≤ 8 = omega (arith, c.requires.eight) in
    simp to_z-of_z (dot_end c.plus_place.result c.args.row.now c.args.column.now 8 le (vh ∙ vg ∙ vf ∙ ve ∙ vd ∙ vc ∙ vb ∙ va))
