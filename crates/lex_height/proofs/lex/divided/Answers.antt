use Rattle.std.proofs.Common.{rules, FitsSigned, to_z-of_z, unsigned_abs}
use Rattle.std.specs.Int.{w128}
use Rattle.std.proofs.lemmas.Nat.Gcd.{dvd_refl}
use Rattle.lex_height.proofs.Quotients.{quotients_lowest, quotients_value}
use Rattle.lex_height.proofs.lex.divided.Goals as goal

pub quotients-requires-clause-divides : goal.quotients-requires-clause-divides
quotients-requires-clause-divides c =
    let fg : FitsSigned w128 c.common_divisor-divisor.result = search rules in
    simp to_z-of_z ((c.common_divisor-divisor.ensures.gcd _).1 (dvd_refl _)).1

pub exact_quotient-requires-clause-divides : goal.exact_quotient-requires-clause-divides
exact_quotient-requires-clause-divides c =
    let fg : FitsSigned w128 c.common_divisor-divisor.result = search rules in
    simp to_z-of_z ((c.common_divisor-divisor.ensures.gcd (unsigned_abs c.common_divisor-divisor.result)).1 (dvd_refl _)).0

pub invariant_of-result : goal.invariant_of-result
invariant_of-result c =
    let fd : FitsSigned w128 c.args.den = c.ranges.den in
    let fg : FitsSigned w128 c.common_divisor-divisor.result = search rules in
    let fq : FitsSigned w128 c.exact_quotient.result = search rules in
    simp to_z-of_z (quotients_lowest c.common_divisor-divisor.result c.args.den c.exact_quotient.result c.quotients.result c.args.parts.now c.common_divisor-divisor.ensures.positive c.requires.2
    (simp to_z-of_z at c.common_divisor-divisor.ensures.gcd) (simp to_z-of_z at c.quotients.ensures) (simp to_z-of_z at c.exact_quotient.ensures.quotient) c.requires)

pub returns-clause-value : goal.returns-clause-value
returns-clause-value c =
    let fd : FitsSigned w128 c.args.den = c.ranges.den in
    let fg : FitsSigned w128 c.common_divisor-divisor.result = search rules in
    let fq : FitsSigned w128 c.exact_quotient.result = search rules in
    simp to_z-of_z (quotients_value c.common_divisor-divisor.result c.args.den c.exact_quotient.result c.quotients.result c.args.parts.now c.common_divisor-divisor.ensures.positive c.requires.2
    (simp to_z-of_z at c.common_divisor-divisor.ensures.gcd) (simp to_z-of_z at c.quotients.ensures) (simp to_z-of_z at c.exact_quotient.ensures.quotient))

pub returns-clause-lowest : goal.returns-clause-lowest
returns-clause-lowest c = invariant_of-result c
