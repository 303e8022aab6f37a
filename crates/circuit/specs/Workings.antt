-- The working of a circuit: the numbers that follow the elimination of the cell's rows, over unbounded whole numbers.
use Rattle.std.specs.Prelude.{◌≡◌, ℕ, suc, List, ℤ}
use Rattle.reduced_rows.specs.CellRefusals.{IsEliminated, FitsBeyond}
use Rattle.cayley.specs.Problems.{Problem}
use Rattle.cayley.specs.Cells.{Cell}
use Rattle.cayley.specs.Rows.{edge_rows}
use Rattle.circuit.specs.declared.circuits.Circuit.{Circuit}
use Rattle.inner_normal.specs.Coefficients.{difference, coefficients_of, FitsCircuit}
use Rattle.inner_normal.specs.Inverses.{Inverse, inverse_of}

-- the circuit's numbers are those of its working
pub record IsCircuitFrom (p : Problem) (cell : Cell) (j c : ℕ) (inverse : Inverse) (circuit : Circuit) : Type 0 where
  pub coefficients : circuit.coefficients ≡ coefficients_of j inverse (difference p cell j c)
  pub scale : circuit.scale ≡ inverse.den
  pub support : circuit.support ≡ suc j

-- the elimination of the cell's rows fits, and where it doesn't end with a kernel the circuit does too
abbrev pub FitsCircuitWorking : Problem → Cell → ℕ → ℕ → Type 0
FitsCircuitWorking p cell j c = FitsBeyond p.dimension (edge_rows p cell) (FitsCircuit p cell j c)

-- the circuit is made of the answer of the elimination, and all of it fits
abbrev pub IsCircuitOfRows : Problem → Cell → ℕ → ℕ → Circuit → Type 0
IsCircuitOfRows p cell j c circuit = (made : List (List ℤ)) × IsEliminated p.dimension (edge_rows p cell) made × FitsCircuit p cell j c made × IsCircuitFrom p cell j c (inverse_of made) circuit
