use Rattle.std.proofs.Common.{◌∙◌, ap, List, Option, Some}
use Rattle.poly_text.specs.Maps.{Monomial}
use Rattle.poly_text.specs.Bounds.{Verdict}
use Rattle.poly_text.proofs.SmallValues.{read_is_small, small_fit}
use Rattle.poly_text.proofs.system.polynomial.Goals as goal

abbrev found : Verdict (List Monomial) → Option (Verdict (List Monomial))
found v = Some v

pub support-requires : goal.support-requires
support-requires c =
    small_fit c.in-Ok-Ok.terms (read_is_small c.args.n c.as_slice.result.now c.in-Ok-Ok.terms (c.in-Ok-Ok.ensures ∙ ap found c.in-Ok-Ok.field-0-is))
