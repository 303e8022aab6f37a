use Rattle.cayley.proofs.Searching.ComputedLaw.{computed_law}
use Rattle.cayley.proofs.laws.computed.Goals as goal

pub returns : goal.returns
returns c = computed_law
