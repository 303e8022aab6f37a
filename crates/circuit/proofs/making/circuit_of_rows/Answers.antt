use Rattle.std.proofs.Common.{◌-◌}
use Rattle.std.proofs.lemmas.Result.{err_from_is_err_and}
use Rattle.cayley.specs.Rows.{edge_rows}
use Rattle.inner_normal.specs.Coefficients.{FitsCircuit}
use Rattle.inner_normal.proofs.CellAnswers.{fault_before, fault_after}
use Rattle.circuit.proofs.making.circuit_of_rows.Goals as goal

pub circuit_from-requires-clause-answer : goal.circuit_from-requires-clause-answer
circuit_from-requires-clause-answer c = rw c.reduced.ensures c.in_ok-eliminated.ensures.working

pub returns-in_err-eliminated-clause-working : goal.returns-in_err-eliminated-clause-working
returns-in_err-eliminated-clause-working c =
    let p = err_from_is_err_and c.from_residual.result c.from_residual.ensures.1 in
    rw (p.1, p.2) (fault_before c.args.problem.now.dimension (edge_rows c.args.problem.now c.args.cell.now) (FitsCircuit c.args.problem.now c.args.cell.now (c.args.support - 1) c.args.position) c.in_err-eliminated.field-0.0 c.in_err-eliminated.ensures.working)

pub returns-in_err-circuit-clause-working : goal.returns-in_err-circuit-clause-working
returns-in_err-circuit-clause-working c =
    let p = err_from_is_err_and c.from_residual-in_err-circuit.result c.from_residual-in_err-circuit.ensures.1 in
    let w = rw c.reduced.ensures at c.in_err-circuit.ensures.working in
    rw (p.1, p.2) (fault_after c.args.problem.now.dimension (edge_rows c.args.problem.now c.args.cell.now) c.in_ok-eliminated.eliminated (FitsCircuit c.args.problem.now c.args.cell.now (c.args.support - 1) c.args.position) c.in_err-circuit.field-0.0 c.in_ok-eliminated.ensures.working w)

pub returns-clause-working : goal.returns-clause-working
returns-clause-working c = let w = rw c.reduced.ensures at c.in_ok-circuit.ensures.working in (c.in_ok-eliminated.eliminated, c.in_ok-eliminated.ensures.working, w.0, w.1)
