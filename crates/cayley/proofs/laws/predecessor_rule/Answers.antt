use Rattle.cayley.proofs.Flipping.FlipSigns.{predecessor_rule}
use Rattle.cayley.proofs.laws.predecessor_rule.Goals as goal

pub returns : goal.returns
returns c = predecessor_rule
