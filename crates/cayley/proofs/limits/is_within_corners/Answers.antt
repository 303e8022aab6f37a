use Rattle.std.proofs.Common.{rules, ◌≤◌, ◌↔◌, List, subst, FitsSigned, to_z-of_z}
use Rattle.std.specs.Prelude.{IsTrue, ℤ, unsigned_abs}
use Rattle.std.specs.Int.{w64}
use Rattle.int_vectors.specs.Vectors.{Each}
use Rattle.cayley.proofs.limits.is_within_corners.Goals as goal

pub returns-then-are_within : goal.returns-then-are_within
returns-then-are_within c =
    let h = subst (λ (zs : List ℤ). IsTrue c.are_within.result ↔ Each zs (λ z. unsigned_abs z ≤ 33000000)) c.as_slice.ensures.value c.are_within.ensures in
    let f : FitsSigned w64 c.args.x.now.base = search rules in
    let k = simp to_z-of_z at c.is_corner_base.ensures in
    (λ t. (h.0 c.if-are_within.true, k.0 t), λ w. k.1 w.1)

pub returns-else-are_within : goal.returns-else-are_within
returns-else-are_within c =
    let h = subst (λ (zs : List ℤ). IsTrue c.are_within.result ↔ Each zs (λ z. unsigned_abs z ≤ 33000000)) c.as_slice.ensures.value c.are_within.ensures in
    let n = c.if-are_within.false in
    (λ t. (h.0 t, absurd (cc)), λ w. h.1 w.0)
