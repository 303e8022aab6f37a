-- What a node's matrix tells of its cell.
use Rattle.std.specs.Prelude.{ℕ}
use Rattle.cayley.specs.Problems.{Problem, IsProblem, HasSamePoints}
use Rattle.cayley.specs.Cells.{IsOf}
use Rattle.cayley.specs.Dependencies.{IsFurtherAt, IsPositiveDependency}
use Rattle.inner_normal.specs.Coefficients.{difference, coefficients_of, numbers_of}
use Rattle.inner_normal.specs.MovingNormals.{IsMovingNormal}
use Rattle.path_trace.specs.declared.trace.TraceNode.{TraceNode}
use Rattle.log_check.specs.Nodes.{HasInverse}
use Rattle.log_check.specs.Numbers.{inverse_of, normal_of}

-- where the differences times the matrix are the number times the identity, the rows times the falls are the one normal of the cell at every time
abbrev pub NormalLaw : Type 0
NormalLaw = (p : Problem) (node : TraceNode) → IsProblem p → IsOf p node.cell → HasInverse p node → IsMovingNormal p node.cell (normal_of p node)

-- and the products with the columns are a dependency of each further point that is positive there, however the points are ranked
abbrev pub CircuitLaw : Type 0
CircuitLaw = (p : Problem) (node : TraceNode) → IsProblem p → IsOf p node.cell → HasInverse p node → (j c : ℕ) → IsFurtherAt p node.cell j c
    → (q : Problem) → HasSamePoints q p → IsPositiveDependency q node.cell j c (numbers_of (coefficients_of j (inverse_of p node) (difference p node.cell j c)))
