use Rattle.std.proofs.Common.{sym, subst}
use Rattle.int_vectors.specs.Fits.{AllFit}
use Rattle.family_gen.proofs.MadePoints.{vector_fits}
use Rattle.family_gen.proofs.scattering.vector.Goals as goal

pub from_vec-requires : goal.from_vec-requires
from_vec-requires c = subst AllFit (sym c.loop-c.invariant) (vector_fits c.loop-c.c-index c.args.coords.now c.type_inv.coords)
