-- The working of a normal: the numbers that follow the elimination of a cell's rows, over unbounded whole numbers.
use Rattle.std.specs.Prelude.{◌≡◌, ℕ, suc, ◌+◌, ◌*◌, ◌<ℤ◌, List, Option, IfSome, SomeIff, ℤ, pos, length}
use Rattle.wide_int.specs.Whole.{FitsWhole}
use Rattle.int_vectors.specs.Vectors.{Each}
use Rattle.reduced_rows.specs.Denominators.{lcm_from, FitsLcm, shares, FitsShares}
use Rattle.reduced_rows.specs.CellRefusals.{IsEliminated, FitsBeyond}
use Rattle.cayley.specs.Problems.{Problem, HasSamePoints}
use Rattle.cayley.specs.Cells.{Cell}
use Rattle.cayley.specs.Rows.{edge_rows}
use Rattle.inner_normal.specs.declared.moving.MovingNormal.{MovingNormal}
use Rattle.inner_normal.specs.MovingNormals.{IsMovingNormal}

-- n rows of 2n + 2 numbers: differences of coordinates, of bases and of speeds, and how a row is made of the cell's rows
abbrev pub HaveWidths : List (List ℤ) → Type 0
HaveWidths made = Each made (λ row. length row ≡ 2 * length made + 2)

-- the common denominator: the least common multiple of the pivots
abbrev pub denominator : List (List ℤ) → ℕ
denominator made = lcm_from 0 1 made

-- the denominator, where each step of it fits
abbrev pub IsDenominator : List (List ℤ) → Option ℤ → Type 0
IsDenominator made den = SomeIff den (FitsLcm 0 1 made) (pos (denominator made)) × IfSome den FitsWhole × IfSome den (λ d. pos 0 <ℤ d)

-- the denominator and the numbers of column n, which rest, and of the column after it, which move with the time, fit
abbrev pub FitsNormal : ℕ → List (List ℤ) → Type 0
FitsNormal n made = FitsLcm 0 1 made × FitsShares n 0 (denominator made) made × FitsShares (suc n) 0 (denominator made) made

-- the numbers of the normal are those of its working: minus each entry times the denominator over the pivot
pub record IsNormalFrom (made : List (List ℤ)) (m : MovingNormal) : Type 0 where
  pub resting : m.p ≡ shares (length made) 0 (denominator made) made
  pub moving : m.q ≡ shares (suc (length made)) 0 (denominator made) made
  pub over : m.den ≡ pos (denominator made)

-- the elimination of a cell's rows fits, and where it doesn't end with a kernel its normal does too
abbrev pub FitsNormalWorking : Problem → Cell → Type 0
FitsNormalWorking p cell = FitsBeyond p.dimension (edge_rows p cell) (FitsNormal p.dimension)

-- the normal is made of the answer of the elimination, all of it fits, and it is the cell's however the points are ranked
abbrev pub IsNormalOfRows : Problem → Cell → MovingNormal → Type 0
IsNormalOfRows p cell m = FitsNormalWorking p cell
    × ((made : List (List ℤ)) → IsEliminated p.dimension (edge_rows p cell) made → IsNormalFrom made m)
    × ((q : Problem) → HasSamePoints q p → IsMovingNormal q cell m)
