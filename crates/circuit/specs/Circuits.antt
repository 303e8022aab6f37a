-- Circuits: a cell's dependency with one further point. Places j count from 0, positions c from 1.
use Rattle.std.specs.Prelude.{◌≡◌, ℕ, suc, ◌+◌, ◌*◌, ◌≤◌, length, ℤ, pos, ◌≤ℤ◌}
use Rattle.cayley.specs.Times.{Time}
use Rattle.cayley.specs.Problems.{Problem}
use Rattle.cayley.specs.Cells.{Cell}
use Rattle.cayley.specs.Normals.{Normal, IsNormal}
use Rattle.cayley.specs.Dependencies.{Numbers, IsDependencyOf, IsPositiveDependency, IsMultiple}
use Rattle.cayley.specs.Laws.{Sides}
use Rattle.inner_normal.specs.Coefficients.{last_of, numbers_of}
use Rattle.circuit.specs.declared.circuits.Circuit.{Circuit}

-- two coefficients for each of n pairs and one more, the last at least 1, and the support is one of the n
pub record HasForm (n : ℕ) (circuit : Circuit) : Type 0 where
  pub count : length circuit.coefficients ≡ 2 * n + 1
  pub support : (1 ≤ circuit.support) × (circuit.support ≤ n)
  pub positive : pos 1 ≤ℤ last_of circuit.coefficients

-- the dependency of a cell and the further point c of support j that is positive there
pub record IsCircuit (p : Problem) (cell : Cell) (j c : ℕ) (circuit : Circuit) : Type 0 where
  pub form : HasForm (length cell) circuit
  pub support : circuit.support ≡ suc j
  pub scale : circuit.scale ≡ last_of circuit.coefficients
  pub dependency : IsPositiveDependency p cell j c (numbers_of circuit.coefficients)
  -- every other one is a multiple of it by a fraction
  pub multiples : (others : Numbers) → IsDependencyOf p cell j c others → IsMultiple others (numbers_of circuit.coefficients)
  -- its sum of heights tells the point's side at every time
  pub sides : (t : Time) (v : Normal) → IsNormal p cell t v → Sides p cell j c (numbers_of circuit.coefficients) t v
