use Rattle.crossing.proofs.Between.{positive_between_is}
use Rattle.crossing.proofs.laws.positive_between.Goals as goal

pub returns : goal.returns
returns c = positive_between_is
