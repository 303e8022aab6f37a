use Rattle.std.proofs.Common.{rules, FitsSigned, to_z-of_z, pos, ◌<ℤ◌}
use Rattle.std.specs.Int.{w128}
use Rattle.wide_int.proofs.CommonDivisors.{gcd_above}
use Rattle.wide_int.proofs.Lowest.{quotients_apart, value_back}
use Rattle.wide_int.proofs.fraction.divided.Goals as goal

positive : (c : goal.After-gcd-divisor) → pos 0 <ℤ c.gcd-divisor.result
positive c =
    let fn : FitsSigned w128 c.args.num = c.ranges.num in
    let fd : FitsSigned w128 c.args.den = c.ranges.den in
    gcd_above c.args.num c.args.den c.gcd-divisor.result c.requires.other (simp to_z-of_z at c.gcd-divisor.ensures.divisor) c.gcd-divisor.ensures.sign

pub exact_quotient-requires-clause-positive : goal.exact_quotient-requires-clause-positive
exact_quotient-requires-clause-positive c =
    let fg : FitsSigned w128 c.gcd-divisor.result = search rules in
    simp to_z-of_z (positive c)

pub exact_quotient-requires-clause-divides : goal.exact_quotient-requires-clause-divides
exact_quotient-requires-clause-divides c =
    let fg : FitsSigned w128 c.gcd-divisor.result = search rules in
    simp to_z-of_z c.gcd-divisor.ensures.divisor.0

pub exact_quotient-requires-2-clause-positive : goal.exact_quotient-requires-2-clause-positive
exact_quotient-requires-2-clause-positive c =
    let fg : FitsSigned w128 c.gcd-divisor.result = search rules in
    simp to_z-of_z (positive c.before)

pub exact_quotient-requires-2-clause-divides : goal.exact_quotient-requires-2-clause-divides
exact_quotient-requires-2-clause-divides c =
    let fg : FitsSigned w128 c.gcd-divisor.result = search rules in
    simp to_z-of_z c.gcd-divisor.ensures.divisor.1

pub sign_moved-requires-clause-apart : goal.sign_moved-requires-clause-apart
sign_moved-requires-clause-apart c =
    let fn : FitsSigned w128 c.args.num = c.ranges.num in
    let fd : FitsSigned w128 c.args.den = c.ranges.den in
    let fg : FitsSigned w128 c.gcd-divisor.result = search rules in
    let fp : FitsSigned w128 c.exact_quotient.result = search rules in
    let fq : FitsSigned w128 c.exact_quotient-2.result = search rules in
    let en = simp to_z-of_z at c.exact_quotient.ensures.quotient in
    let ed = simp to_z-of_z at c.exact_quotient-2.ensures.quotient in
    simp to_z-of_z (quotients_apart c.args.num c.args.den c.gcd-divisor.result _ _ (positive c.before.before) (simp to_z-of_z at c.gcd-divisor.ensures.divisor) en ed)

pub returns-clause-value : goal.returns-clause-value
returns-clause-value c =
    let fn : FitsSigned w128 c.args.num = c.ranges.num in
    let fd : FitsSigned w128 c.args.den = c.ranges.den in
    let fg : FitsSigned w128 c.gcd-divisor.result = search rules in
    let fp : FitsSigned w128 c.exact_quotient.result = search rules in
    let fq : FitsSigned w128 c.exact_quotient-2.result = search rules in
    let en = simp to_z-of_z at c.exact_quotient.ensures.quotient in
    let ed = simp to_z-of_z at c.exact_quotient-2.ensures.quotient in
    let e = simp to_z-of_z at c.sign_moved.ensures.value in
    value_back c.sign_moved.result.num c.sign_moved.result.den _ _ c.gcd-divisor.result c.args.num c.args.den en ed e
