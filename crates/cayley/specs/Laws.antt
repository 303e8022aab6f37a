-- The laws of one cell: its normal, its dependencies and the exchange of a point. Places j count from 0, positions from 1.
use Rattle.std.specs.Prelude.{◌≡◌, ◌≢◌, ◌↔◌, ℕ, List, ℤ, pos}
use Rattle.int_vectors.specs.Vectors.{IsZero, IsPositive}
use Rattle.cayley.specs.Times.{Time, IsSameTime}
use Rattle.cayley.specs.Problems.{Problem, IsProblem, point_at, file_points}
use Rattle.cayley.specs.Cells.{Cell, IsOf, IsIndependent}
use Rattle.cayley.specs.Normals.{Normal, IsNormal, HasSameValues, IsAbove, IsLevel, IsBelow, AllAbove}
use Rattle.cayley.specs.Mixed.{IsAlive, IsMixedCell, IsLowestNormal}
use Rattle.cayley.specs.Lives.{AliveJustBefore, AliveJustAfter, BeginsAt}
use Rattle.cayley.specs.Parents.{Precedes}
use Rattle.cayley.specs.Dependencies.{pair_at, IsFurtherAt, Numbers, number_at, IsDependencyOf, IsPositiveDependency, IsMultiple, sum_at, minus, nth_support}
use Rattle.cayley.specs.Flips.{for_first, for_second}

-- an independent cell has a normal at every time, and all its normals there have the same values
abbrev pub OneNormal : Type 0
OneNormal = (p : Problem) (cell : Cell) (t : Time) → IsProblem p → IsOf p cell → IsIndependent p cell
    → ((v : Normal) × IsNormal p cell t v)
    × ((v w : Normal) → IsNormal p cell t v → IsNormal p cell t w → HasSameValues v w)

-- whether it is alive is seen at any one normal
abbrev pub AliveByAnyNormal : Type 0
AliveByAnyNormal = (p : Problem) (cell : Cell) (t : Time) (v : Normal) → IsProblem p → IsOf p cell → IsIndependent p cell → IsNormal p cell t v
    → IsAlive p cell t ↔ AllAbove p cell t v

-- a mixed cell has one normal in lowest terms
abbrev pub OneLowestNormal : Type 0
OneLowestNormal = (p : Problem) (cell : Cell) → IsProblem (file_points p) → IsMixedCell p cell
    → ((v : List ℤ) × (den : ℤ) × IsLowestNormal p cell v den)
    × ((v w : List ℤ) (a b : ℤ) → IsLowestNormal p cell v a → IsLowestNormal p cell w b → (v ≡ w) × (a ≡ b))

-- above, level and below by the sign of the sum of the numbers times the heights
pub record Sides (p : Problem) (cell : Cell) (j c : ℕ) (numbers : Numbers) (t : Time) (v : Normal) : Type 0 where
  pub above : IsPositive (sum_at t numbers p cell (point_at (nth_support p.supports j) c)) ↔ IsAbove t v (nth_support p.supports j) (pair_at cell j).0 c
  pub level : IsZero (sum_at t numbers p cell (point_at (nth_support p.supports j) c)) ↔ IsLevel t v (nth_support p.supports j) (pair_at cell j).0 c
  pub below : IsPositive (minus (sum_at t numbers p cell (point_at (nth_support p.supports j) c))) ↔ IsBelow t v (nth_support p.supports j) (pair_at cell j).0 c

-- an independent cell and a further point have a dependency that is positive there; every other is a multiple of it, and it tells the point's side at every time
abbrev pub OneDependency : Type 0
OneDependency = (p : Problem) (cell : Cell) (j c : ℕ) → IsProblem p → IsOf p cell → IsIndependent p cell → IsFurtherAt p cell j c
    → ((numbers : Numbers) × IsPositiveDependency p cell j c numbers)
    × ((numbers others : Numbers) → IsPositiveDependency p cell j c numbers → IsDependencyOf p cell j c others → IsMultiple others numbers)
    × ((numbers : Numbers) → IsPositiveDependency p cell j c numbers → (t : Time) (v : Normal) → IsNormal p cell t v → Sides p cell j c numbers t v)

-- the cell that takes the further point in place of a point of its own is independent exactly where the dependency isn't zero at the point that goes
abbrev pub Exchange : Type 0
Exchange = (p : Problem) (cell : Cell) (j c : ℕ) (numbers : Numbers) → IsProblem p → IsOf p cell → IsIndependent p cell → IsFurtherAt p cell j c
    → IsPositiveDependency p cell j c numbers
    → (IsIndependent p (for_first cell j c) ↔ ((number_at numbers.pairs j).0 ≢ pos 0))
    × (IsIndependent p (for_second cell j c) ↔ ((number_at numbers.pairs j).1 ≢ pos 0))

-- what is true of a time is true of it however it is written
pub record HoldsHowever (p : Problem) (t u : Time) : Type 0 where
  pub alive : (cell : Cell) → IsAlive p cell t → IsAlive p cell u
  pub just_before : (cell : Cell) → AliveJustBefore p cell t → AliveJustBefore p cell u
  pub just_after : (cell : Cell) → AliveJustAfter p cell t → AliveJustAfter p cell u
  pub begins : (cell : Cell) → BeginsAt p cell t → BeginsAt p cell u
  pub precedes : (sigma tau : Cell) → Precedes p sigma tau t → Precedes p sigma tau u

abbrev pub SameTimes : Type 0
SameTimes = (p : Problem) (t u : Time) → IsProblem p → IsSameTime t u → HoldsHowever p t u
