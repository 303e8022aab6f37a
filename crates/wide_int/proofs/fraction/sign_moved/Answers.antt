use Rattle.std.proofs.Common.{◌<ℤ◌, ◌-ℤ◌, pos, FitsSigned, to_z-of_z, arith}
use Rattle.std.specs.Int.{w128}
use Rattle.std.proofs.lemmas.Int.{ints}
use Rattle.wide_int.proofs.Signed.{neg_signed}
use Rattle.wide_int.proofs.Lowest.{turned_lowest, kept_lowest}
use Rattle.wide_int.proofs.fraction.sign_moved.Goals as goal

pub invariant_of-t-4 : goal.invariant_of-t-4
invariant_of-t-4 c =
    let fn : FitsSigned w128 c.args.num = c.ranges.num in
    let fd : FitsSigned w128 c.args.den = c.ranges.den in
    let gn : FitsSigned w128 (pos 0 -ℤ c.args.num) = neg_signed c.args.num c.requires.num_fits in
    let gd : FitsSigned w128 (pos 0 -ℤ c.args.den) = neg_signed c.args.den c.requires.den_fits in
    let t = simp to_z-of_z at c.if-den-lt0.true in
    let h : c.args.den <ℤ pos 0 = omega (arith, ints, t) in
    simp to_z-of_z (turned_lowest c.args.num c.args.den h c.requires.apart c.requires.num_fits c.requires.den_fits)

pub invariant_of-result : goal.invariant_of-result
invariant_of-result c =
    let fn : FitsSigned w128 c.args.num = c.ranges.num in
    let fd : FitsSigned w128 c.args.den = c.ranges.den in
    let t = simp to_z-of_z at c.if-den-lt0.false in
    simp to_z-of_z (kept_lowest c.args.num c.args.den c.requires.other (λ h. omega (arith, ints, t, h)) c.requires.apart c.requires.num_fits c.requires.den_fits)

pub returns-then-den-lt0-clause-lowest : goal.returns-then-den-lt0-clause-lowest
returns-then-den-lt0-clause-lowest c = invariant_of-t-4 c

pub returns-else-den-lt0-clause-lowest : goal.returns-else-den-lt0-clause-lowest
returns-else-den-lt0-clause-lowest c = invariant_of-result c
