-- The numbers that are made of a node's matrix, and which of them fit.
use Rattle.std.specs.Prelude.{ℕ, zero, suc, ◌<◌, List, [], ◌∷◌, take, drop, ℤ, pos}
use Rattle.int_vectors.specs.Fits.{FitsDot}
use Rattle.int_vectors.specs.Vectors.{dot}
use Rattle.cayley.specs.Problems.{Problem}
use Rattle.cayley.specs.Dependencies.{IsFurtherAt}
use Rattle.carried_inverse.specs.Sums.{base_falls, speed_falls}
use Rattle.inner_normal.specs.declared.moving.MovingNormal.{MovingNormal}
use Rattle.inner_normal.specs.Coefficients.{difference, FitsCoefficients}
use Rattle.inner_normal.specs.Inverses.{Inverse}
use Rattle.cone_walls.specs.Workings.{FitsWalls}
use Rattle.path_trace.specs.declared.trace.TraceNode.{TraceNode}
use Rattle.path_trace.specs.Matrices.{column, columns}
use Rattle.path_trace.specs.Inverses.{pair_difference}

-- the products of m rows of n numbers, which stand one after the other, with a list
abbrev pub row_products : ℕ → ℕ → List ℤ → List ℤ → List ℤ
row_products n zero xs bs = []
row_products n (suc m) xs bs = dot (take n xs) bs ∷ row_products n m (drop n xs) bs

-- each product and partial sum of them fits
abbrev pub FitsRows : ℕ → ℕ → List ℤ → List ℤ → Type 0
FitsRows n zero xs bs = Unit {0}
FitsRows n (suc m) xs bs = FitsDot (pos 0) (take n xs) bs × FitsRows n m (drop n xs) bs

-- the node's number and the columns of its matrix
abbrev pub inverse_of : Problem → TraceNode → Inverse
inverse_of p node = record { den = node.scale; columns = columns p.dimension node.inverse }

-- the normal: the rows of the matrix times how far bases and speeds fall from the first to the second point of each pair
abbrev pub normal_of : Problem → TraceNode → MovingNormal
normal_of p node = record {
  p = row_products p.dimension p.dimension node.inverse (base_falls p.supports node.cell);
  q = row_products p.dimension p.dimension node.inverse (speed_falls p.supports node.cell);
  den = node.scale;
}

-- each product and partial sum of the differences times the matrix fits
abbrev pub FitsProducts : Problem → TraceNode → Type 0
FitsProducts p node = (i k : ℕ) → i < p.dimension → k < p.dimension → FitsDot (pos 0) (pair_difference p node.cell i) (column p.dimension k p.dimension node.inverse)

-- the sums of the normal fit
abbrev pub FitsSums : Problem → TraceNode → Type 0
FitsSums p node = FitsRows p.dimension p.dimension node.inverse (base_falls p.supports node.cell) × FitsRows p.dimension p.dimension node.inverse (speed_falls p.supports node.cell)

-- the numbers of the normal, of the wall lines and of the circuits of all further points fit
pub record FitsNode (p : Problem) (node : TraceNode) : Type 0 where
  pub sums : FitsSums p node
  pub walls : FitsWalls p node.cell (normal_of p node)
  pub circuits : (j c : ℕ) → IsFurtherAt p node.cell j c → FitsCoefficients j (inverse_of p node) (difference p node.cell j c)
