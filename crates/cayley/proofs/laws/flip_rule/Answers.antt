use Rattle.cayley.proofs.Flipping.FlipSigns.{flip_rule}
use Rattle.cayley.proofs.laws.flip_rule.Goals as goal

pub returns : goal.returns
returns c = flip_rule
