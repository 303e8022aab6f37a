-- the dependency of a cell and a further point is its circuit
use Rattle.std.proofs.Common.{◌≡◌, ℕ, suc, ◌+◌, ◌*◌, ◌<◌, ◌≤◌, length, arith, sym, subst, subst₂, ◌∙◌, ◌<ℤ◌}
use Rattle.std.proofs.lemmas.Int.{ints}
use Rattle.std.proofs.Math.IntN.{ℤ, pos}
use Rattle.reduced_rows.specs.CellRefusals.{IsEliminated}
use Rattle.cayley.specs.Problems.{Problem, IsProblem, HasSamePoints}
use Rattle.cayley.specs.Cells.{Cell, IsOf, IsIndependent}
use Rattle.cayley.specs.Dependencies.{IsFurtherAt, IsPositiveDependency}
use Rattle.cayley.proofs.OneCell.CellRows.{InRange, rows_independent}
use Rattle.cayley.proofs.OneCell.OneDependency.{dependency_law}
use Rattle.cayley.proofs.Ranking.Unperturbed.{same_rows, same_dimension, same_of, same_well, same_further}
use Rattle.inner_normal.specs.Coefficients.{numbers_of, last_of}
use Rattle.inner_normal.specs.Inverses.{Inverse, IsInverseOf}
use Rattle.inner_normal.proofs.Meaning.{reduced_of}
use Rattle.inner_normal.proofs.Reading.{cell_long}
use Rattle.circuit.specs.declared.circuits.Circuit.{Circuit}
use Rattle.circuit.specs.Circuits.{IsCircuit}

-- of one problem
circuit_means : (p : Problem) (cell : Cell) (j c : ℕ) → IsProblem p → IsOf p cell → IsIndependent p cell → j < p.dimension → IsFurtherAt p cell j c → (circuit : Circuit) → IsPositiveDependency p cell j c (numbers_of circuit.coefficients)
    → length circuit.coefficients ≡ 2 * length cell + 1 → circuit.scale ≡ last_of circuit.coefficients → pos 0 <ℤ last_of circuit.coefficients → circuit.support ≡ suc j → IsCircuit p cell j c circuit
circuit_means p cell j c well of independent below further circuit dependency count scale positive support =
    let bound : suc j ≤ length cell = (let k = cell_long p.supports cell InRange of in let e = well.supports in omega (arith, below, e, k)) in
    let law = dependency_law p cell j c well of independent further in
    record {
      form = record {
        count = count;
        support = (omega (arith, support), omega (arith, support, bound));
        positive = omega (arith, ints, positive);
      };
      support = support;
      scale = scale;
      dependency = dependency;
      multiples = λ others e. law.1 (numbers_of circuit.coefficients) others dependency e;
      sides = λ t v n. law.2 (numbers_of circuit.coefficients) dependency t v n;
    }

-- of the problem, and of each that differs in version and ranks alone
pub circuit_however : (q : Problem) (cell : Cell) (j c : ℕ) → IsProblem q → IsOf q cell → j < q.dimension → IsFurtherAt q cell j c → (inverse : Inverse) → IsInverseOf q cell inverse → pos 0 <ℤ inverse.den → (circuit : Circuit)
    → ((p : Problem) → HasSamePoints p q → IsPositiveDependency p cell j c (numbers_of circuit.coefficients)) → length circuit.coefficients ≡ 2 * length cell + 1 → last_of circuit.coefficients ≡ inverse.den → circuit.scale ≡ inverse.den
    → circuit.support ≡ suc j → (p : Problem) → HasSamePoints p q → IsCircuit p cell j c circuit
circuit_however q cell j c well of below further inverse is positive circuit dependency count last scale support p e =
    let back : HasSamePoints q p = sym e in
    let size = same_dimension q p back in
    let own = same_well q p back well in
    let its = same_of q p cell back of in
    let r = reduced_of p cell own its is.0 (subst₂ (λ n rows. IsEliminated n rows is.0) size (same_rows q p cell back) is.1) in
    circuit_means p cell j c own its (rows_independent p cell own its r.independent) (subst (λ n. j < n) size below) (same_further q p cell j c back further) circuit (dependency p e) count (scale ∙ sym last)
    (subst (λ z. pos 0 <ℤ z) (sym last) positive) support
