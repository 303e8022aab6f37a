-- what the products tell of a node
use Rattle.std.proofs.Common.{◌≡◌, ℕ, ◌+◌, ◌<◌, List, [], length, arith, sym, ap, subst, ◌∙◌}
use Rattle.std.specs.Prelude.{slice_index_or}
use Rattle.std.proofs.Math.IntN.{ℤ, pos}
use Rattle.int_vectors.specs.Fits.{FitsDot}
use Rattle.int_vectors.specs.Vectors.{dot}
use Rattle.cayley.specs.Problems.{Problem}
use Rattle.path_trace.specs.declared.trace.TraceNode.{TraceNode}
use Rattle.path_trace.specs.Inverses.{pair_difference}
use Rattle.path_trace.specs.Matrices as matrices
use Rattle.path_trace.specs.Matrices.{column}
use Rattle.path_trace.proofs.Independence.{columns_long, columns_at}
use Rattle.log_check.specs.Nodes.{HasShape, HasInverse}
use Rattle.log_check.specs.Numbers.{FitsProducts}
use Rattle.log_check.specs.Products.{AreRow, FitsRow}

module _ (p : Problem) (node : TraceNode) (columns : List (List ℤ)) (is : columns ≡ matrices.columns p.dimension node.inverse) where
  count : length columns ≡ p.dimension
  count = ap length is ∙ columns_long p.dimension 0 p.dimension node.inverse

  column_is : (k : ℕ) → k < p.dimension → slice_index_or columns k [] ≡ column p.dimension k p.dimension node.inverse
  column_is k lt =
      let n = p.dimension in
      let z : 0 + k ≡ k = omega arith in
      ap (λ (cs : List (List ℤ)). slice_index_or cs k []) is ∙ columns_at n 0 n k node.inverse lt ∙ ap (λ j. column n j n node.inverse) z

  within : (k : ℕ) → k < length columns → k < p.dimension
  within k lt = let e = count in omega (arith, lt, e)

  inside : (k : ℕ) → k < p.dimension → k < length columns
  inside k lt = let e = count in omega (arith, lt, e)

  pub fits_from : FitsProducts p node → (i : ℕ) → i < p.dimension → FitsRow (pair_difference p node.cell i) columns (length columns)
  fits_from h i li k lk = subst (λ (c : List ℤ). FitsDot (pos 0) (pair_difference p node.cell i) c) (sym (column_is k (within k lk))) (h i k li (within k lk))

  pub fits_to : ((i : ℕ) → i < p.dimension → FitsRow (pair_difference p node.cell i) columns (length columns)) → FitsProducts p node
  fits_to h i k li lk = subst (λ (c : List ℤ). FitsDot (pos 0) (pair_difference p node.cell i) c) (column_is k lk) (h i li k (inside k lk))

  pub same_from : HasInverse p node → (i : ℕ) → i < p.dimension → AreRow node.scale i (pair_difference p node.cell i) columns (length columns)
  same_from h i li k lk = ap (λ (c : List ℤ). dot (pair_difference p node.cell i) c) (column_is k (within k lk)) ∙ h.product i k li (within k lk)

  pub same_to : HasShape p node → ((i : ℕ) → i < p.dimension → AreRow node.scale i (pair_difference p node.cell i) columns (length columns)) → HasInverse p node
  same_to shape h = record {
    positive = shape.positive;
    long = shape.long;
    product = λ i k li lk. ap (λ (c : List ℤ). dot (pair_difference p node.cell i) c) (sym (column_is k lk)) ∙ h i li k (inside k lk);
  }
