-- what the answers of the calls say
use Rattle.std.proofs.Common.{ℕ}
use Rattle.cayley.specs.Problems.{Problem, IsProblem}
use Rattle.cayley.specs.Cells.{Cell, IsOf, IsIndependent}
use Rattle.cayley.specs.Rows.{edge_rows}
use Rattle.cayley.proofs.OneCell.CellRows.{rows_independent}
use Rattle.inner_normal.specs.Coefficients.{FitsCircuit}
use Rattle.inner_normal.proofs.CellAnswers.{beyond_rows}
use Rattle.inner_normal.proofs.Meaning.{reduced_of}
use Rattle.circuit.specs.declared.circuits.Circuit.{Circuit}
use Rattle.circuit.specs.Workings.{FitsCircuitWorking, IsCircuitOfRows}

-- a circuit's working fits, and its cell is independent
pub circuit_fits : (p : Problem) (cell : Cell) (j c : ℕ) (circuit : Circuit) → IsCircuitOfRows p cell j c circuit → FitsCircuitWorking p cell j c
circuit_fits p cell j c circuit h = beyond_rows p.dimension (edge_rows p cell) h.0 (FitsCircuit p cell j c) h.1 h.2

pub circuit_independent : (p : Problem) (cell : Cell) (j c : ℕ) → IsProblem p → IsOf p cell → (circuit : Circuit) → IsCircuitOfRows p cell j c circuit → IsIndependent p cell
circuit_independent p cell j c well of circuit h = rows_independent p cell well of (reduced_of p cell well of h.0 h.1).independent
