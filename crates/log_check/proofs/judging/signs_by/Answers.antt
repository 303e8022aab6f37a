use Rattle.std.proofs.Common.{rules, ◌-◌, length, arith, FitsSigned, to_z-of_z, refl}
use Rattle.std.specs.Int.{w128}
use Rattle.cayley.specs.declared.found.Sign.TheVariants.{Minus}
use Rattle.searcher.proofs.KeptChildren.{not_neither, their_signs}
use Rattle.log_check.proofs.Circuits.{circuit_by}
use Rattle.log_check.proofs.judging.signs_by.Goals as goal

pub signs-signs-requires : goal.signs-signs-requires
signs-signs-requires c =
    let f : FitsSigned w128 c.den.result = search rules in
    let a = c.requires.point.0 in
    let b = c.requires.point.1 in
    let is = circuit_by c.args.problem.now c.args.cell.now (c.args.support - 1) c.args.position c.coefficients_by.ensures.valid.shape.problem c.requires.cell c.requires.independent (omega (arith, a, b)) c.requires.point.2
    c.args.inverse.now c.requires.count c.requires.depends (record { coefficients = c.in-Ok.coefficients; scale = c.den.result; support = c.args.support }) c.in-Ok.ensures.value.1 c.den.ensures.value (omega (arith, a)) in
    simp to_z-of_z (length c.args.cell.now, is.form)

pub unreachable-requires : goal.unreachable-requires
unreachable-requires c =
    let a = c.requires.point.0 in
    let b = c.requires.point.1 in
    let is = circuit_by c.args.problem.now c.args.cell.now (c.args.support - 1) c.args.position c.coefficients_by.ensures.valid.shape.problem c.requires.cell c.requires.independent (omega (arith, a, b)) c.requires.point.2
    c.args.inverse.now c.requires.count c.requires.depends (record { coefficients = c.in-Ok.coefficients; scale = c.den.result; support = c.args.support }) c.in-Ok.ensures.value.1 c.den.ensures.value (omega (arith, a)) in
    let n = c.in-None.ensures.none.0 refl in
    not_neither c.args.problem.now c.args.cell.now (c.args.support - 1) c.args.position (record { coefficients = c.in-Ok.coefficients; scale = c.den.result; support = c.args.support }) is c.signs-signs.result c.signs-signs.ensures Minus n.0 n.1

pub returns : goal.returns
returns c =
    let a = c.requires.point.0 in
    let b = c.requires.point.1 in
    let is = circuit_by c.args.problem.now c.args.cell.now (c.args.support - 1) c.args.position c.coefficients_by.ensures.valid.shape.problem c.requires.cell c.requires.independent (omega (arith, a, b)) c.requires.point.2
    c.args.inverse.now c.requires.count c.requires.depends (record { coefficients = c.in-Ok.coefficients; scale = c.den.result; support = c.args.support }) c.in-Ok.ensures.value.1 c.den.ensures.value (omega (arith, a)) in
    their_signs c.args.problem.now c.args.cell.now (c.args.support - 1) c.args.position (record { coefficients = c.in-Ok.coefficients; scale = c.den.result; support = c.args.support }) is c.signs-signs.result c.signs-signs.ensures Minus c.in-Some.signs c.in-Some.ensures.same
