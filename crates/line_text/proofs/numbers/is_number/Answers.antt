use Rattle.std.proofs.Common.{◌∙◌, ap, not}
use Rattle.line_text.proofs.NumberLemmas.{digits_decide, no_digits}
use Rattle.line_text.proofs.numbers.is_number.Goals as goal

pub returns-then-not-is_empty : goal.returns-then-not-is_empty
returns-then-not-is_empty c =
    c.all_digits.ensures ∙ digits_decide c.args.text.now c.unsigned_part-digits.result.now c.unsigned_part-digits.ensures c.if-not-is_empty.ensures

pub returns-else-not-is_empty : goal.returns-else-not-is_empty
returns-else-not-is_empty c =
    ap not c.if-not-is_empty.false ∙ no_digits c.args.text.now c.unsigned_part-digits.result.now c.unsigned_part-digits.ensures c.if-not-is_empty.ensures
