use Rattle.std.proofs.Common.{◌<ℤ◌, ◌∙◌, pos, sym, rules, FitsSigned, to_z-of_z, arith}
use Rattle.std.specs.Int.{w128}
use Rattle.std.proofs.lemmas.Int.{ints}
use Rattle.int_vectors.specs.Vectors.{at}
use Rattle.reduced_rows.proofs.CleaningAll.{signed_negative, signed_positive}
use Rattle.reduced_rows.proofs.stepping.make_positive.Goals as goal

pub returns-then-get-lt0 : goal.returns-then-get-lt0
returns-then-get-lt0 c =
    let fr : FitsSigned w128 c.get.result = search rules in
    let t = simp to_z-of_z at c.if-get-lt0.true in
    let h : at c.args.row.now c.args.k <ℤ pos 0 = omega (arith, ints, t, c.get.ensures.value) in
    c.negate.ensures ∙ sym (signed_negative c.args.k c.args.row.now h)

pub returns-else-get-lt0 : goal.returns-else-get-lt0
returns-else-get-lt0 c =
    let fr : FitsSigned w128 c.get.result = search rules in
    let t = simp to_z-of_z at c.if-get-lt0.false in
    sym (signed_positive c.args.k c.args.row.now (λ h. omega (arith, ints, t, h, c.get.ensures.value)))
