use Rattle.std.proofs.Common.{rules, FitsSigned, to_z-of_z, arith, pos, ◌<ℤ◌}
use Rattle.std.specs.Int.{w128}
use Rattle.std.proofs.lemmas.Int.{ints}
use Rattle.wide_int.proofs.CommonDivisors.{gcd_above, lcm_from, lcm_is_least}
use Rattle.wide_int.proofs.Signed.{some_same}
use Rattle.wide_int.proofs.divisors.lcm.Goals as goal

positive : (c : goal.After-gcd) → pos 0 <ℤ c.gcd.result
positive c =
    let fa : FitsSigned w128 c.args.a = c.ranges.a in
    let fb : FitsSigned w128 c.args.b = c.ranges.b in
    let p = c.requires.b_positive in
    gcd_above c.args.a c.args.b c.gcd.result (λ e. omega (arith, ints, e, p)) (simp to_z-of_z at c.gcd.ensures.divisor) c.gcd.ensures.sign

pub exact_quotient-requires-clause-positive : goal.exact_quotient-requires-clause-positive
exact_quotient-requires-clause-positive c =
    let fg : FitsSigned w128 c.gcd.result = search rules in
    simp to_z-of_z (positive c)

pub exact_quotient-requires-clause-divides : goal.exact_quotient-requires-clause-divides
exact_quotient-requires-clause-divides c =
    let fg : FitsSigned w128 c.gcd.result = search rules in
    simp to_z-of_z c.gcd.ensures.divisor.0

pub returns-clause-value : goal.returns-clause-value
returns-clause-value c =
    let fa : FitsSigned w128 c.args.a = c.ranges.a in
    let fb : FitsSigned w128 c.args.b = c.ranges.b in
    let fg : FitsSigned w128 c.gcd.result = search rules in
    let fq : FitsSigned w128 c.exact_quotient.result = search rules in
    let d = simp to_z-of_z at c.gcd.ensures.divisor in
    let e = simp to_z-of_z at c.exact_quotient.ensures.quotient in
    some_same c.product.result _ _ (lcm_from c.args.a c.args.b c.gcd.result c.exact_quotient.result c.requires.a_positive c.requires.b_positive d (positive c.before.before) e) (simp to_z-of_z at c.product.ensures)

pub returns-clause-least : goal.returns-clause-least
returns-clause-least c = lcm_is_least _ _
