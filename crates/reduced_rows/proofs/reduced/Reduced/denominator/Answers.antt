use Rattle.std.proofs.Common.{sym, subst}
use Rattle.reduced_rows.specs.Denominators.{HavePivots}
use Rattle.reduced_rows.specs.Spans.{HaveForm}
use Rattle.reduced_rows.proofs.reduced.Reduced.denominator.Goals as goal

pub lcm_of_pivots-requires : goal.lcm_of_pivots-requires
unfolding HaveForm
lcm_of_pivots-requires c = subst (HavePivots 0) (sym c.deref.ensures.value) c.self.invariant.0
