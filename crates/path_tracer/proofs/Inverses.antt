-- what the columns of the elimination are, as a matrix
use Rattle.std.proofs.Common.{◌≡◌, ℕ, zero, suc, ◌+◌, ◌<◌, List, length, arith, sym, ap, ap₂, subst, ◌∙◌, ◌<ℤ◌, unsigned_abs}
use Rattle.std.proofs.lemmas.Int.{ints}
use Rattle.std.proofs.Math.IntN.{ℤ, pos, ◌*ℤ◌}
use Rattle.wide_int.proofs.Ring.{mul_zero_ℤ}
use Rattle.int_vectors.specs.Vectors.{Each, dot}
use Rattle.reduced_rows.specs.Carried.{unit}
use Rattle.reduced_rows.specs.CellRefusals.{IsEliminated}
use Rattle.cayley.specs.Problems.{Problem, IsProblem}
use Rattle.cayley.specs.Cells.{Cell, IsOf}
use Rattle.cayley.specs.Rows.{edge_rows}
use Rattle.inner_normal.specs.Inverses.{Inverse, inverse_of, scaled_columns, IsInverseOf}
use Rattle.inner_normal.proofs.Meaning.{length-columns, columns_long}
use Rattle.reduced_rows.specs.Denominators.{lcm_from}
use Rattle.carried_inverse.specs.Systems.{IsInverseOfCell}
use Rattle.carried_inverse.proofs.FromRows.{inverse_of_cell}
use Rattle.path_trace.specs.declared.trace.TraceNode.{TraceNode}
use Rattle.path_trace.specs.Matrices.{column}
use Rattle.path_trace.specs.Inverses.{in_identity, IsInverseOver}
use Rattle.path_trace.proofs.Independence.{difference_at}
use Rattle.path_tracer.specs.Rows.{rows_of}
use Rattle.path_tracer.specs.Nodes.{inverse_in, HasInverse}
use Rattle.path_tracer.proofs.Matrices.{rows_long, column_of, columns_of}

identity : (g : ℤ) (i k : ℕ) → g *ℤ unit i k ≡ in_identity g i k
identity g zero zero = omega (arith, ints)
identity g zero (suc k) = mul_zero_ℤ g
identity g (suc i) zero = mul_zero_ℤ g
identity g (suc i) (suc k) = identity g i k

module _ (p : Problem) (cell : Cell) (well : IsProblem p) (of : IsOf p cell) (a : Inverse) (is : IsInverseOfCell p cell a) where
  over : IsInverseOver p cell a.den (rows_of p.dimension 0 a.columns)
  over = record {
    positive = is.positive;
    long = rows_long a.columns p.dimension is.count p.dimension 0;
    product = λ i k li lk.
        ap₂ dot (sym (difference_at p.supports cell _ of i (let e = well.supports in omega (arith, e, li)))) (column_of a.columns p.dimension is.count is.long k lk)
        ∙ is.inverts i k li lk ∙ identity a.den i k;
  }

pub node_has : (p : Problem) (node : TraceNode) (cell : Cell) → node.cell ≡ cell → IsProblem p → IsOf p cell → (made columns : List (List ℤ)) → IsEliminated p.dimension (edge_rows p cell) made → pos 0 <ℤ (inverse_of made).den
    → node.scale ≡ (inverse_of made).den → columns ≡ (inverse_of made).columns → node.inverse ≡ rows_of (length columns) 0 columns → HasInverse p node
node_has p node cell same well of made columns done positive scale are inverse =
    let is = inverse_of_cell p cell well of made done positive in
    let count : length columns ≡ p.dimension = ap length are ∙ is.count in
    let rows : node.inverse ≡ rows_of p.dimension 0 (inverse_of made).columns = inverse ∙ ap₂ (λ n (l : List (List ℤ)). rows_of n 0 l) count are in
    record {
      inverse = subst (λ c. IsInverseOver p c node.scale node.inverse) (sym same)
          (subst (λ g. IsInverseOver p cell g node.inverse) (sym scale) (subst (λ x. IsInverseOver p cell (inverse_of made).den x) (sym rows) (over p cell well of (inverse_of made) is)));
      eliminated = subst (λ c. IsInverseOf p c (inverse_in p.dimension node)) (sym same) (
        made,
        done,
        ap₂ (λ (g : ℤ) (l : List (List ℤ)). record { den = g; columns = l }) scale (ap (λ x. Rattle.path_trace.specs.Matrices.columns p.dimension x) rows ∙ columns_of (inverse_of made).columns p.dimension is.count is.long),
      );
    }

-- as many columns as each has numbers
pub square : (made columns : List (List ℤ)) (off l : ℕ) → columns ≡ scaled_columns (length made) off l made → Each columns (λ column. length column ≡ length columns)
square made columns off l e =
    let n : length columns ≡ length made = ap length e ∙ length-columns (length made) off l made in
    subst (λ k. Each columns (λ column. length column ≡ k)) (sym n) (subst (λ (cs : List (List ℤ)). Each cs (λ column. length column ≡ length made)) (sym e) (columns_long (length made) off l made))

-- the number is the least common multiple of the pivots
pub scale_is : (made columns : List (List ℤ)) (scale : ℤ) (off : ℕ) → scale ≡ pos (lcm_from 0 1 made) → columns ≡ scaled_columns (length made) (length made + 2) (unsigned_abs scale) made → columns ≡ (inverse_of made).columns
scale_is made columns scale off s e = e ∙ ap (λ z. scaled_columns (length made) (length made + 2) (unsigned_abs z) made) s
