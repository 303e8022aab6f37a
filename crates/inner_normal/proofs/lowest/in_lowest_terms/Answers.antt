use Rattle.std.proofs.Common.{rules, FitsSigned, to_z-of_z, unsigned_abs}
use Rattle.std.specs.Int.{w128}
use Rattle.inner_normal.proofs.CommonFactors.{divides_content, lowest_form}
use Rattle.inner_normal.proofs.lowest.in_lowest_terms.Goals as goal

pub divide-requires-clause-exact : goal.divide-requires-clause-exact
divide-requires-clause-exact c =
    let fd : FitsSigned w128 c.args.den = search rules in
    let fg : FitsSigned w128 c.common_divisor-g.result = search rules in
    let d = simp to_z-of_z at c.common_divisor-g.ensures.divisor in
    simp to_z-of_z (divides_content (unsigned_abs c.common_divisor-g.result) c.args.v d.0)

pub quotient-requires-clause-exact : goal.quotient-requires-clause-exact
quotient-requires-clause-exact c =
    let fd : FitsSigned w128 c.args.den = search rules in
    let fg : FitsSigned w128 c.common_divisor-g.result = search rules in
    let d = simp to_z-of_z at c.common_divisor-g.ensures.divisor in
    simp to_z-of_z d.1

pub returns : goal.returns
returns c =
    let fd : FitsSigned w128 c.args.den = search rules in
    let fg : FitsSigned w128 c.common_divisor-g.result = search rules in
    let fq : FitsSigned w128 c.quotient.result = search rules in
    let d = simp to_z-of_z at c.common_divisor-g.ensures.divisor in
    let e = simp to_z-of_z at c.divide.ensures in
    let q = simp to_z-of_z at c.quotient.ensures in
    let p = c.common_divisor-g.ensures.positive in
    simp to_z-of_z (lowest_form c.args.v c.divide.new.self c.args.den c.quotient.result c.common_divisor-g.result d c.requires.positive p e q)
