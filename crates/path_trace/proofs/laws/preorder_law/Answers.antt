use Rattle.path_trace.proofs.Members.{preorder_law}
use Rattle.path_trace.proofs.laws.preorder_law.Goals as goal

pub returns : goal.returns
returns c = preorder_law
