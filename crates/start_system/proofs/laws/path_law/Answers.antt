use Rattle.start_system.proofs.Started.SearchLaws.{path_law}
use Rattle.start_system.proofs.laws.path_law.Goals as goal

pub returns : goal.returns
returns c = path_law
