use Rattle.std.proofs.Common.{FitsSigned, ap, ◌∙◌, ◌*ℤ◌}
use Rattle.std.specs.Int.{w128}
use Rattle.wide_int.proofs.Dividing.{quotient, quot_exact}
use Rattle.wide_int.proofs.divisors.exact_quotient.Goals as goal

pub returns-clause-quotient : goal.returns-clause-quotient
returns-clause-quotient c =
    let fa : FitsSigned w128 c.args.a = c.ranges.a in
    let fd : FitsSigned w128 c.args.divisor = c.ranges.divisor in
    ap (λ z. c.args.divisor *ℤ z) (quotient c.args.a c.args.divisor fa fd c.requires.positive) ∙ quot_exact c.args.a c.args.divisor c.requires.divides
