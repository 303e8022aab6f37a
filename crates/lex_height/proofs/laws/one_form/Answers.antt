use Rattle.lex_height.proofs.Forms.{one_form_is}
use Rattle.lex_height.proofs.laws.one_form.Goals as goal

pub returns : goal.returns
returns c = one_form_is
