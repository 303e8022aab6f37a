use Rattle.log_check.proofs.Walks.{walk_law}
use Rattle.log_check.proofs.laws.walk_law.Goals as goal

pub returns : goal.returns
returns c = λ p due nodes h. walk_law p due nodes h
