use Rattle.wide_int.proofs.Lowest.{ordered_is}
use Rattle.wide_int.proofs.fraction.ordered.Goals as goal

pub returns : goal.returns
returns c = ordered_is
