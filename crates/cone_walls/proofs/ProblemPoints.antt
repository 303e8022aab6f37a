-- facts of a point of a problem, by its support and position
use Rattle.std.proofs.Common.{◌≡◌, ℕ, ◌-◌, ◌≤◌, [], length, arith, sym, subst}
use Rattle.int_vectors.specs.Vectors.{Each}
use Rattle.cayley.specs.Problems.{Point, Problem, point_at, with_rank}
use Rattle.cayley.specs.Valid.{IsValidProblem, IsCornerCoordinate, support_at}
use Rattle.cayley.proofs.OneCell.CellRows.{each_position}
use Rattle.int_vectors.proofs.Each.{all_each}
use Rattle.cayley.proofs.Lists.Supports.{valid_points}

abbrev pub IsNear : ℕ → Point → Type 0
IsNear n x = (length x.coordinates ≡ n) × Each x.coordinates IsCornerCoordinate

pub near_point : (p : Problem) → IsValidProblem p → (i position : ℕ) → 1 ≤ i → i ≤ p.dimension → 1 ≤ position → position ≤ length (support_at p i) → (x : Point) → x ≡ with_rank 0 (point_at (support_at p i) position) → IsNear p.dimension x
near_point p valid i position least greatest first last x e =
    subst (IsNear p.dimension) (sym e)
    (each_position (IsNear p.dimension) (support_at p i) position first last
    (all_each (λ s. Each s (IsNear p.dimension)) p.supports (valid_points p valid) (i - 1) [] (let n = valid.shape.problem.supports in omega (arith, n, least, greatest))))
