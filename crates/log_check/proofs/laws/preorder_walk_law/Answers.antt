use Rattle.log_check.proofs.Walks.{preorder_walk_law}
use Rattle.log_check.proofs.laws.preorder_walk_law.Goals as goal

pub returns : goal.returns
returns c = λ p due nodes are each. preorder_walk_law p due nodes are each
