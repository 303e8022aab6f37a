use Rattle.int_vectors.proofs.EntryDivisors.{content_is}
use Rattle.int_vectors.proofs.vector.IntVec.content.Goals as goal

pub returns-clause-greatest : goal.returns-clause-greatest
returns-clause-greatest c = content_is c.args.self.now
