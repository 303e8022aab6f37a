use Rattle.std.proofs.Common.{rules, ◌∙◌, ap, sym, ℤ, true, Option, FitsSigned, to_z-of_z}
use Rattle.std.specs.Int.{w128}
use Rattle.poly_text.specs.Trees.{base_power, exponent}
use Rattle.poly_text.proofs.Negatives.{negative_is}
use Rattle.poly_text.proofs.reading.negative.Goals as goal

pub returns-in-Some : goal.returns-in-Some
returns-in-Some c = λ n b.
    let wide : FitsSigned w128 c.in-Some.z = search rules in
    negative_is c.difference.result c.in-Some.z (simp to_z-of_z at c.difference.ensures) n b ∙ ap (λ (o : Option ℤ). base_power n b (exponent true o)) (sym c.in-Some.is)

pub returns-in-None : goal.returns-in-None
returns-in-None c = λ n b. ap (λ (o : Option ℤ). base_power n b (exponent true o)) (sym c.in-None.is)
