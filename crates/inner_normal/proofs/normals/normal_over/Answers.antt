use Rattle.std.proofs.Common.{rules, ◌≡◌, length, FitsSigned, to_z-of_z, suc, arith, sym, ap, ◌∙◌}
use Rattle.std.specs.Int.{w128}
use Rattle.inner_normal.proofs.InverseSteps.{each_wide}
use Rattle.inner_normal.proofs.RowEquations.{moving_from, from_solutions}
use Rattle.inner_normal.proofs.normals.normal_over.Goals as goal

pub solution-requires-clause-column : goal.solution-requires-clause-column
solution-requires-clause-column c =
    let n = c.count-resting.ensures in
    each_wide (length c.args.reduced.now) c.count-resting.result c.args.reduced.now (omega (arith, n)) c.requires.widths

pub solution-requires-2-clause-column : goal.solution-requires-2-clause-column
solution-requires-2-clause-column c =
    let n = c.count-resting.ensures in
    let m = c.in-Some.ensures in
    each_wide (length c.args.reduced.now) c.in-Some.moving c.args.reduced.now (omega (arith, n, m)) c.requires.widths

pub returns-clause-normal : goal.returns-clause-normal
returns-clause-normal c =
    let fd : FitsSigned w128 c.args.den = c.ranges.den in
    let p = simp to_z-of_z at c.in_ok-p.ensures in
    let q = simp to_z-of_z at c.in_ok-q.ensures in
    let m = c.in-Some.ensures in
    let e : c.in-Some.moving ≡ suc c.count-resting.result = omega (arith, m) in
    λ problem cell well of eliminated.
    moving_from problem cell well of c.args.reduced.now eliminated _
    (from_solutions c.args.reduced.now _ c.count-resting.result c.in-Some.moving c.args.den c.count-resting.ensures e (to_z-of_z fd) c.requires.den.1 p.1 q.1)
    (simp to_z-of_z c.requires.positive)
