use Rattle.int_vectors.proofs.EntryDivisors.{content_is}
use Rattle.int_vectors.proofs.vector.IntVec.primitive.Goals as goal

pub returns-clause-greatest : goal.returns-clause-greatest
returns-clause-greatest c = content_is _
