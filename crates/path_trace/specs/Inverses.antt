-- The inverse of a cell's differences, over a number.
use Rattle.std.specs.Prelude.{◌≡◌, ℕ, zero, suc, ◌*◌, ◌<◌, List, length, ℤ, pos, ◌<ℤ◌}
use Rattle.int_vectors.specs.Vectors.{sub, dot}
use Rattle.cayley.specs.Problems.{Problem, IsProblem, point_at}
use Rattle.cayley.specs.Cells.{Cell, IsOf, IsIndependent}
use Rattle.cayley.specs.Dependencies.{pair_at, nth_support}
use Rattle.path_trace.specs.Matrices.{column}

-- the second point of the pair at a place less the first; places count from 0
abbrev pub pair_difference : Problem → Cell → ℕ → List ℤ
pair_difference p cell i =
    sub (point_at (nth_support p.supports i) (pair_at cell i).1).coordinates (point_at (nth_support p.supports i) (pair_at cell i).0).coordinates

-- the entry of g times the identity
abbrev pub in_identity : ℤ → ℕ → ℕ → ℤ
in_identity g zero zero = g
in_identity g zero (suc k) = pos 0
in_identity g (suc i) zero = pos 0
in_identity g (suc i) (suc k) = in_identity g i k

-- the differences times the matrix are g times the identity
pub record IsInverseOver (p : Problem) (cell : Cell) (g : ℤ) (matrix : List ℤ) : Type 0 where
  pub positive : pos 0 <ℤ g
  pub long : length matrix ≡ p.dimension * p.dimension
  pub product : (i k : ℕ) → i < p.dimension → k < p.dimension → dot (pair_difference p cell i) (column p.dimension k p.dimension matrix) ≡ in_identity g i k

-- a cell whose differences have such a matrix is independent
abbrev pub IndependentLaw : Type 0
IndependentLaw = (p : Problem) (cell : Cell) (g : ℤ) (matrix : List ℤ) → IsProblem p → IsOf p cell → IsInverseOver p cell g matrix → IsIndependent p cell
