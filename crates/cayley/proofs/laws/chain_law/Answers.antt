use Rattle.cayley.proofs.Searching.ComputedLaw.{chain_law}
use Rattle.cayley.proofs.laws.chain_law.Goals as goal

pub returns : goal.returns
returns c = chain_law
