use Rattle.std.proofs.Common.{rules, ◌≡◌, sym, subst, FitsSigned, to_z-of_z}
use Rattle.std.specs.Int.{w128}
use Rattle.wide_int.specs.Whole.{FitsWhole}
use Rattle.inner_normal.proofs.CoefficientSteps.{own_here, own_elsewhere}
use Rattle.inner_normal.proofs.coefficients.less_own.Goals as goal

pub returns-then-i-place : goal.returns-then-i-place
returns-then-i-place c =
    let e : c.args.i ≡ c.args.place = search (rules, c.if-i-place.true) in
    let fd : FitsSigned w128 c.args.den = c.ranges.den in
    let fm : FitsSigned w128 c.args.m = c.ranges.m in
    rw (own_here c.args.i c.args.place c.args.den c.args.m e) (simp to_z-of_z at c.difference.ensures)

pub returns-else-i-place : goal.returns-else-i-place
returns-else-i-place c =
    let n : ¬ (c.args.i ≡ c.args.place) = search (rules, c.if-i-place.false) in
    let fm : FitsSigned w128 c.args.m = c.ranges.m in
    let e = own_elsewhere c.args.i c.args.place c.args.den c.args.m n in
    (subst FitsWhole (sym e) c.requires, (simp to_z-of_z (sym e)))
