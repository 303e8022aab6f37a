use Rattle.std.proofs.Common.{FitsSigned, to_z-of_z, arith, pos_of_ne-zero}
use Rattle.std.specs.Int.{w128}
use Rattle.std.proofs.lemmas.Int.{ints, quot_fits}
use Rattle.wide_int.proofs.Dividing.{quotient, quot_exact}
use Rattle.wide_int.proofs.Signed.{is_zero}
use Rattle.inner_normal.proofs.lowest.quotient.Goals as goal

pub nonzero_div-result : goal.nonzero_div-result
nonzero_div-result c =
    let fx : FitsSigned w128 c.args.x = c.ranges.x in
    let fg : FitsSigned w128 c.args.g = c.ranges.g in
    let p = c.requires.positive in
    simp to_z-of_z ((pos_of_ne-zero (λ e. let z = is_zero c.args.g fg e in omega (arith, ints, z, p))), quot_fits w128 c.args.x c.args.g fx p)

pub returns : goal.returns
returns c =
    let fx : FitsSigned w128 c.args.x = c.ranges.x in
    let fg : FitsSigned w128 c.args.g = c.ranges.g in
    rw (quotient c.args.x c.args.g fx fg c.requires.positive) (quot_exact c.args.x c.args.g c.requires.exact)
