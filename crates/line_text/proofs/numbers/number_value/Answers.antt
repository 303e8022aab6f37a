use Rattle.line_text.proofs.NumberLemmas.{number_is_text, parsed}
use Rattle.line_text.proofs.numbers.number_value.Goals as goal

pub returns-in_default : goal.returns-in_default
returns-in_default c = λ h. c.in_default.ensures.cases.0 (number_is_text c.args.text.now h.0)

pub returns : goal.returns
returns c = rw c.ok.ensures.value (parsed c.args.text.now c.in-Ok.text.now c.parse.result c.in-Ok.ensures.cases.0 c.parse.ensures.value.0)
