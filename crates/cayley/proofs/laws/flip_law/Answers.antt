use Rattle.cayley.proofs.Flipping.FlipPlaces.{flip_law}
use Rattle.cayley.proofs.laws.flip_law.Goals as goal

pub returns : goal.returns
returns c = flip_law
