use Rattle.std.proofs.Common.{rules, ◌-◌, ◌<ℤ◌, pos, subst, arith, ◌∙◌, FitsSigned, to_z-of_z}
use Rattle.std.specs.Int.{w128}
use Rattle.circuit.proofs.Meaning.{circuit_however}
use Rattle.circuit.proofs.making.circuit_with.Goals as goal

pub returns-clause-circuit : goal.returns-clause-circuit
returns-clause-circuit c =
    let fd : FitsSigned w128 c.den.result = search rules in
    let q = c.requires.point in
    let a = c.requires.point.0 in
    let b = c.requires.point.1 in
    let den = c.den.ensures.value in
    let positive = c.den.ensures.positive in
    let e = c.in_ok-coefficients.ensures in
    simp to_z-of_z (λ p same.
    circuit_however c.args.problem.now c.args.cell.now (c.args.support - 1) c.args.position c.coefficients_at.ensures.valid.shape.problem c.requires.cell (omega (arith, a, b)) q.2
    c.args.inverse.now c.requires.inverse (subst (λ z. pos 0 <ℤ z) den positive) _ e.dependency e.count e.last den (omega (arith, a)) p same)
