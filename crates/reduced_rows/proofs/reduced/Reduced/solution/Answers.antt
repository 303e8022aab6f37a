use Rattle.std.proofs.Common.{sym, subst}
use Rattle.reduced_rows.specs.Denominators.{HavePivots}
use Rattle.reduced_rows.specs.Spans.{HaveForm}
use Rattle.reduced_rows.proofs.reduced.Reduced.solution.Goals as goal

pub shares_of-requires-clause-pivots : goal.shares_of-requires-clause-pivots
unfolding HaveForm
shares_of-requires-clause-pivots c = subst (HavePivots 0) (sym c.deref.ensures.value) c.self.invariant.0
