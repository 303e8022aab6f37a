use Rattle.std.proofs.Common.{◌≤◌, ◌↔◌, List, subst}
use Rattle.std.specs.Prelude.{IsTrue, ℤ, unsigned_abs}
use Rattle.int_vectors.specs.Vectors.{Each}
use Rattle.cayley.proofs.limits.is_within_resting.Goals as goal

pub returns-else-are_within : goal.returns-else-are_within
returns-else-are_within c =
    let h = subst (λ (zs : List ℤ). IsTrue c.are_within.result ↔ Each zs (λ z. unsigned_abs z ≤ 1000000)) c.as_slice.ensures.value c.are_within.ensures in
    let n = c.if-are_within.false in
    (λ t. (h.0 t, absurd (cc)), λ w. h.1 w.0)
