use Rattle.std.proofs.Common.{◌-◌}
use Rattle.cayley.specs.Rows.{edge_rows}
use Rattle.inner_normal.specs.Coefficients.{FitsCircuit}
use Rattle.inner_normal.proofs.CellAnswers.{beyond_kernel, overflow_answer, dependent_answer, kernel_answer}
use Rattle.circuit.specs.Workings.{IsCircuitOfRows, FitsCircuitWorking}
use Rattle.circuit.proofs.Answered.{circuit_fits, circuit_independent}
use Rattle.circuit.proofs.making.circuit_of.Goals as goal

pub returns-clause-overflow : goal.returns-clause-overflow
returns-clause-overflow c =
    let p = c.args.problem.now in
    let cell = c.args.cell.now in
    let j = c.args.support - 1 in
    let k = c.args.position in
    overflow_answer (IsCircuitOfRows p cell j k) (FitsCircuitWorking p cell j k) p cell c.dim-dim.ensures.valid.shape.problem c.requires.cell (circuit_fits p cell j k) (beyond_kernel p.dimension (edge_rows p cell) (FitsCircuit p cell j k))
    c.circuit_of_rows.result c.circuit_of_rows.ensures.working

pub returns-clause-dependent : goal.returns-clause-dependent
returns-clause-dependent c =
    let p = c.args.problem.now in
    let cell = c.args.cell.now in
    let j = c.args.support - 1 in
    let k = c.args.position in
    dependent_answer (IsCircuitOfRows p cell j k) (FitsCircuitWorking p cell j k) p cell c.dim-dim.ensures.valid.shape.problem c.requires.cell (circuit_fits p cell j k) (beyond_kernel p.dimension (edge_rows p cell) (FitsCircuit p cell j k))
    (circuit_independent p cell j k c.dim-dim.ensures.valid.shape.problem c.requires.cell) c.circuit_of_rows.result c.circuit_of_rows.ensures.working

pub returns-clause-kernel : goal.returns-clause-kernel
returns-clause-kernel c =
    let p = c.args.problem.now in
    let cell = c.args.cell.now in
    let j = c.args.support - 1 in
    let k = c.args.position in
    kernel_answer (IsCircuitOfRows p cell j k) (FitsCircuitWorking p cell j k) p cell c.dim-dim.ensures.valid.shape.problem c.requires.cell (circuit_fits p cell j k) (beyond_kernel p.dimension (edge_rows p cell) (FitsCircuit p cell j k))
    c.circuit_of_rows.result c.circuit_of_rows.ensures.working
