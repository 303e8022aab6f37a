use Rattle.std.proofs.Common.{◌≡◌, ◌+◌, ◌*◌, ℕ, List, ℤ, length, refl, sym, subst, ap, arith}
use Rattle.int_vectors.specs.Vectors.{Each}
use Rattle.reduced_rows.specs.Steps.{OfLength}
use Rattle.carried_inverse.proofs.tests.begun.Goals as goal

pub reduce-requires-clause-lengths : goal.reduce-requires-clause-lengths
reduce-requires-clause-lengths c = (6, omega arith, subst (OfLength 6) (sym c.in_ok-rows.ensures) (refl, (refl, tt)))

pub of-requires : goal.of-requires
of-requires c =
    let r = c.in_ok-reduced.ensures.reduced in
    let e : 6 ≡ 2 * length c.in_ok-reduced.reduced + 2 = (let n = r.count in omega (arith, n)) in
    record { widths = subst (λ (m : ℕ). Each c.in_ok-reduced.reduced (λ row. length row ≡ m)) e (r.long 6 (subst (OfLength 6) (sym c.in_ok-rows.ensures) (refl, (refl, tt)))) }
