use Rattle.lex_height.proofs.Forms.{ordered_is}
use Rattle.lex_height.proofs.laws.ordered.Goals as goal

pub returns : goal.returns
returns c = ordered_is
