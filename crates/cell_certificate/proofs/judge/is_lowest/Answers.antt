use Rattle.std.proofs.Common.{rules, subst, unsigned_abs, FitsSigned, to_z-of_z, ℤ}
use Rattle.std.specs.Int.{w128, IsGcd}
use Rattle.cell_certificate.proofs.Coprime.{coprime_by, one_test}
use Rattle.cell_certificate.proofs.judge.is_lowest.Goals as goal

pub returns : goal.returns
returns c =
    let fd : FitsSigned w128 c.args.normal.now.den = search rules in
    let fc : FitsSigned w128 c.content.result = search rules in
    let fg : FitsSigned w128 c.gcd.result = search rules in
    let d = simp to_z-of_z at c.gcd.ensures.divisor in
    let g = subst (λ (z : ℤ). IsGcd (unsigned_abs c.args.normal.now.den) (unsigned_abs z) (unsigned_abs c.gcd.result)) c.content.ensures.value d in
    let one = one_test c.gcd.result fg c.gcd.ensures.sign in
    let lowest = coprime_by c.args.normal.now.den c.args.normal.now.v (unsigned_abs c.gcd.result) g in
    ((λ t. lowest.0 (one.0 t)), (λ h. one.1 (lowest.1 h)))
