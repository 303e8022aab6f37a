-- the numbers of a further point as a circuit
use Rattle.std.proofs.Common.{◌≡◌, ℕ, suc, ◌+◌, ◌*◌, ◌<◌, List, length, arith, sym, ap, subst, ◌∙◌}
use Rattle.std.proofs.lemmas.Int.{ints}
use Rattle.std.proofs.lemmas.List.{length-map}
use Rattle.std.proofs.Math.IntN.{ℤ}
use Rattle.int_vectors.specs.Vectors.{dot}
use Rattle.cayley.specs.Problems.{Problem, IsProblem}
use Rattle.cayley.specs.Cells.{Cell, IsOf, IsIndependent}
use Rattle.cayley.specs.Dependencies.{IsFurtherAt, IsPositiveDependency}
use Rattle.cayley.proofs.OneCell.CellRows.{InRange}
use Rattle.cayley.proofs.OneCell.OneDependency.{dependency_law}
use Rattle.circuit.specs.declared.circuits.Circuit.{Circuit}
use Rattle.circuit.specs.Circuits.{IsCircuit}
use Rattle.inner_normal.specs.Coefficients.{difference, products, coefficients_of, numbers_of, last_of}
use Rattle.inner_normal.specs.Inverses.{Inverse}
use Rattle.inner_normal.proofs.PairNumbers.{last-coefficients, length-coefficients}
use Rattle.inner_normal.proofs.Reading.{cell_long}

module _ (p : Problem) (cell : Cell) (j c : ℕ) (well : IsProblem p) (of : IsOf p cell) (ind : IsIndependent p cell) (below : j < p.dimension) (further : IsFurtherAt p cell j c) (inverse : Inverse) (count : length inverse.columns ≡ p.dimension)
    (dep : IsPositiveDependency p cell j c (numbers_of (coefficients_of j inverse (difference p cell j c)))) (circuit : Circuit) (made : circuit.coefficients ≡ coefficients_of j inverse (difference p cell j c)) where
  cell_is : length cell ≡ p.dimension
  cell_is = let k = cell_long p.supports cell InRange of in let e = well.supports in omega (arith, e, k)

  last_is : last_of circuit.coefficients ≡ inverse.den
  last_is = ap last_of made ∙ last-coefficients 0 j inverse.den (products (difference p cell j c) inverse.columns)

  dependency : IsPositiveDependency p cell j c (numbers_of circuit.coefficients)
  dependency = subst (λ (xs : List ℤ). IsPositiveDependency p cell j c (numbers_of xs)) (sym made) dep

  pub circuit_by : circuit.scale ≡ inverse.den → circuit.support ≡ suc j → IsCircuit p cell j c circuit
  circuit_by scale support =
      let law = dependency_law p cell j c well of ind further in
      let ms = products (difference p cell j c) inverse.columns in
      let m = length-map inverse.columns (dot (difference p cell j c)) in
      let l = length-coefficients 0 j inverse.den ms in
      let e = cell_is in
      let positive = dependency.0 in
      record {
        form = record {
          count = ap length made ∙ l ∙ ap (λ z. 2 * z + 1) (omega (arith, e, m, count));
          support = (omega (arith, support), omega (arith, support, below, e));
          positive = omega (arith, ints, positive);
        };
        support = support;
        scale = scale ∙ sym last_is;
        dependency = dependency;
        multiples = λ others d. law.1 (numbers_of circuit.coefficients) others dependency d;
        sides = λ t v n. law.2 (numbers_of circuit.coefficients) dependency t v n;
      }
