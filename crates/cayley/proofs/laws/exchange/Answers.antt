use Rattle.cayley.proofs.Flipping.FlipPlaces.{exchange_law}
use Rattle.cayley.proofs.laws.exchange.Goals as goal

pub returns : goal.returns
returns c = exchange_law
