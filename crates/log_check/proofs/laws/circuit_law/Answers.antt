use Rattle.log_check.proofs.Inverting.{depends}
use Rattle.log_check.proofs.laws.circuit_law.Goals as goal

pub returns : goal.returns
returns c = λ p node well of h. depends p node well of h
