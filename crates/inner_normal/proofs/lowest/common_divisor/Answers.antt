use Rattle.std.proofs.Common.{rules, FitsSigned, to_z-of_z, arith}
use Rattle.std.specs.Int.{w128}
use Rattle.std.proofs.lemmas.Int.{ints}
use Rattle.wide_int.proofs.CommonDivisors.{gcd_above}
use Rattle.inner_normal.proofs.lowest.common_divisor.Goals as goal

pub returns-clause-divisor : goal.returns-clause-divisor
returns-clause-divisor c =
    let fd : FitsSigned w128 c.args.den = c.ranges.den in
    let fc : FitsSigned w128 c.content.result = search rules in
    let fg : FitsSigned w128 c.gcd.result = search rules in
    let d = simp to_z-of_z at c.gcd.ensures.divisor in
    simp to_z-of_z (rw c.content.ensures.value at d)

pub returns-clause-positive : goal.returns-clause-positive
returns-clause-positive c =
    let fd : FitsSigned w128 c.args.den = c.ranges.den in
    let fc : FitsSigned w128 c.content.result = search rules in
    let fg : FitsSigned w128 c.gcd.result = search rules in
    let d = simp to_z-of_z at c.gcd.ensures.divisor in
    simp to_z-of_z (gcd_above c.content.result c.args.den c.gcd.result (λ e. let p = c.requires.positive in omega (arith, ints, e, p)) d c.gcd.ensures.sign)
