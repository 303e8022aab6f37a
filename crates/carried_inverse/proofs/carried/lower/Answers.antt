use Rattle.std.proofs.Common.{rules, ◌≡◌, List, ℤ, unsigned_abs, int_div, FitsSigned, to_z-of_z, subst}
use Rattle.std.specs.Int.{w64}
use Rattle.wide_int.proofs.Dividing.{quot_exact}
use Rattle.int_vectors.specs.Contents.{DividesEach}
use Rattle.int_vectors.specs.Vectors.{Each}
use Rattle.carried_inverse.specs.Exchanges.{IsDivisorOf}
use Rattle.carried_inverse.proofs.Lowering.{lowered_from}
use Rattle.carried_inverse.proofs.carried.lower.Goals as goal

pub divide_all-requires-clause-exact : goal.divide_all-requires-clause-exact
divide_all-requires-clause-exact c =
    let fg : FitsSigned w64 c.divisor_of-g.result = search rules in
    let fd : FitsSigned w64 c.args.den = c.ranges.den in
    let d = simp to_z-of_z at c.divisor_of-g.ensures.divisor in
    simp to_z-of_z (subst (λ (xs : List (List ℤ)). Each xs (DividesEach (unsigned_abs c.divisor_of-g.result))) c.deref.ensures.value d.1)

pub returns : goal.returns
returns c =
    let fd : FitsSigned w64 c.args.den = c.ranges.den in
    let fg : FitsSigned w64 c.divisor_of-g.result = search rules in
    let fq : FitsSigned w64 c.quotient.result = search rules in
    let d = simp to_z-of_z at c.divisor_of-g.ensures in
    let q : c.quotient.result ≡ int_div c.args.den c.divisor_of-g.result = simp to_z-of_z at c.quotient.ensures in
    let v = simp to_z-of_z at c.divide_all.ensures in
    let g = subst (λ (xs : List (List ℤ)). IsDivisorOf (unsigned_abs c.args.den) xs (unsigned_abs c.divisor_of-g.result)) c.deref.ensures.value d.divisor in
    simp to_z-of_z (lowered_from c.args.den c.quotient.result c.divisor_of-g.result c.args.columns.now.items c.divide_all.new.columns.items d.positive g v (rw q (quot_exact c.args.den c.divisor_of-g.result g.0)))
