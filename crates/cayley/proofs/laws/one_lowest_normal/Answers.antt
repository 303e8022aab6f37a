use Rattle.cayley.proofs.OneCell.LowestTerms.{one_lowest_normal_law}
use Rattle.cayley.proofs.laws.one_lowest_normal.Goals as goal

pub returns : goal.returns
returns c = one_lowest_normal_law
