use Rattle.std.proofs.Common.{sym, ◌≡◌, ◌∙◌, ap, ap₂, subst, refl, true, false, int_le, FitsSigned, Ok}
use Rattle.std.proofs.Math.Facts.{to_z-of_z}
use Rattle.std.specs.Int.{w128}
use Rattle.line_text.specs.Numbers.{value_of}
use Rattle.line_text.proofs.NumberLemmas.{inside, no_number, number_outside, number_inside, not_inside, too_low, too_high}
use Rattle.line_text.proofs.numbers.number_within.Goals as goal
use Rattle.line_text.proofs.numbers.number_within.Goals.{else-min-value-via-then-min-value+else-value-max, else-min-value-via-else-min-value}

pub returns-then-is_number : goal.returns-then-is_number
returns-then-is_number c =
    let text = c.args.text.now in
    let number = sym c.if-is_number.ensures in
    number_outside c.args.min c.args.max text number (not_inside c.args.min c.args.max (value_of text) c.ranges.min c.ranges.max (λ fits. c.in_default.ensures (number, fits)))

pub returns-in_default : goal.returns-in_default
returns-in_default c = no_number _ _ _ (sym c.if-is_number.ensures)

pub returns-then-value-max : goal.returns-then-value-max
returns-then-value-max c =
    let is = c.in-Some.ensures.1 in
    let number = c.in-Some.ensures.0.0 in
    let fits : FitsSigned w128 c.in-Some.value = subst (FitsSigned w128) (sym is) c.in-Some.ensures.0.1 in
    let low : int_le c.args.min c.in-Some.value ≡ true = ap₂ int_le (sym (to_z-of_z c.ranges.min)) (sym (to_z-of_z fits)) ∙ c.if-min-value.true in
    let high : int_le c.in-Some.value c.args.max ≡ true = ap₂ int_le (sym (to_z-of_z fits)) (sym (to_z-of_z c.ranges.max)) ∙ c.if-value-max.true in
    ap Ok (to_z-of_z fits) ∙ number_inside c.args.min c.args.max c.in-Some.value c.args.text.now number is (rw (low, high) refl)

pub returns : goal.returns
returns c =
    let is = c.in-Some.ensures.1 in
    let number = c.in-Some.ensures.0.0 in
    let fits : FitsSigned w128 c.in-Some.value = subst (FitsSigned w128) (sym is) c.in-Some.ensures.0.1 in
    let out : inside c.args.min c.args.max c.in-Some.value ≡ false =
    elim c.else-min-value.branch [
      | else-min-value-via-then-min-value+else-value-max w ↦
          too_high c.args.min c.args.max c.in-Some.value (ap₂ int_le (sym (to_z-of_z fits)) (sym (to_z-of_z c.ranges.max)) ∙ w.if-value-max.false)
      | else-min-value-via-else-min-value w ↦
          too_low c.args.min c.args.max c.in-Some.value (ap₂ int_le (sym (to_z-of_z c.ranges.min)) (sym (to_z-of_z fits)) ∙ w.if-min-value.false)
    ] in
    number_outside c.args.min c.args.max c.args.text.now number (ap (inside c.args.min c.args.max) (sym is) ∙ out)
