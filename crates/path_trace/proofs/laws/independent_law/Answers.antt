use Rattle.path_trace.proofs.Independence.{independent_law}
use Rattle.path_trace.proofs.laws.independent_law.Goals as goal

pub returns : goal.returns
returns c = independent_law
