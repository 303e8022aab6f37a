-- The nodes of a path tree.
use Rattle.std.specs.Prelude.{ℕ}
use Rattle.wide_int.specs.Whole.{FitsWhole}
use Rattle.int_vectors.specs.Fits.{AllFit}
use Rattle.cayley.specs.Problems.{Problem}
use Rattle.cayley.specs.Cells.{Cell}
use Rattle.cayley.specs.Dependencies.{IsFurtherAt}
use Rattle.inner_normal.specs.Inverses.{Inverse, IsInverseOf}
use Rattle.path_trace.specs.declared.trace.TraceNode.{TraceNode}
use Rattle.path_trace.specs.Matrices.{columns}
use Rattle.path_trace.specs.Inverses.{IsInverseOver}

-- the matrix of a node by its columns, with its number
abbrev pub inverse_in : ℕ → TraceNode → Inverse
inverse_in n node = record { den = node.scale; columns = columns n node.inverse }

-- the differences times the matrix are the number times the identity, and both are those of the cell's elimination
pub record HasInverse (p : Problem) (node : TraceNode) : Type 0 where
  pub inverse : IsInverseOver p node.cell node.scale node.inverse
  pub eliminated : IsInverseOf p node.cell (inverse_in p.dimension node)

-- the number and each entry of the matrix fit
abbrev pub FitsNumbers : TraceNode → Type 0
FitsNumbers node = FitsWhole node.scale × AllFit node.inverse

-- some point is neither of the cell's pair
abbrev pub HasFurther : Problem → Cell → Type 0
HasFurther p cell = (j c : ℕ) × IsFurtherAt p cell j c
