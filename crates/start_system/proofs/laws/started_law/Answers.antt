use Rattle.start_system.proofs.Started.SearchLaws.{started_law}
use Rattle.start_system.proofs.laws.started_law.Goals as goal

pub returns : goal.returns
returns c = started_law
