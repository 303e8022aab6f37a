use Rattle.log_check.proofs.Inverting.{moves}
use Rattle.log_check.proofs.laws.normal_law.Goals as goal

pub returns : goal.returns
returns c = λ p node well of h. moves p node well of h
