use Rattle.std.proofs.Common.{rules, ◌∙◌, ap, ℤ, Option, Some, FitsSigned}
use Rattle.std.specs.Int.{w128}
use Rattle.std.proofs.lemmas.Int.{to_z-of_z}
use Rattle.poly_text.specs.Symbols.{found, value_of_digits}
use Rattle.poly_text.proofs.symbols.value.Goals as goal

abbrev some_number : ℤ → Option ℤ
some_number z = Some z

pub returns-in-Ok : goal.returns-in-Ok
unfolding value_of_digits
returns-in-Ok c =
    let wide : FitsSigned w128 c.in-Ok.number = search rules in
    ap some_number (to_z-of_z w128 c.in-Ok.number wide) ∙ ap found c.in-Ok.ensures.answer

pub returns-in-Err : goal.returns-in-Err
unfolding value_of_digits
returns-in-Err c = ap found c.in-Err.ensures.answer
