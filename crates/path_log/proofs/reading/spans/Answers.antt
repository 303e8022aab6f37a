use Rattle.std.proofs.Common.{◌≤◌, ◌+◌, arith, subst, sym, All}
use Rattle.path_log.proofs.Spans.{spans_within}
use Rattle.path_log.proofs.reading.spans.Goals as goal

pub returns-clause-within : goal.returns-clause-within
returns-clause-within c =
    let counts : All (λ m. (1 ≤ m) × (m ≤ 1000)) c.as_slice.result.now = subst (All (λ m. (1 ≤ m) × (m ≤ 1000))) (sym c.as_slice.ensures.value) c.in_ok-counts.ensures.within in
    spans_within c.raised.result c.as_slice.result.now (c.dim.result + 1) counts (omega (arith, c.dim.ensures.value, c.dim.ensures.valid.shape.dimension.1)) c.raised.ensures.value
