-- The working of a cell up to its wall lines, over unbounded whole numbers.
use Rattle.std.specs.Prelude.{◌≡◌, ℕ, suc, List, length, ℤ, pos}
use Rattle.reduced_rows.specs.Denominators.{shares}
use Rattle.reduced_rows.specs.CellRefusals.{FitsBeyond}
use Rattle.cayley.specs.Problems.{version2, Problem, Point, point_at}
use Rattle.cayley.specs.Cells.{Cell, EachPair, IsFurther}
use Rattle.cayley.specs.Dependencies.{IsFurtherAt}
use Rattle.cayley.specs.Rows.{edge_rows}
use Rattle.inner_normal.specs.Coefficients.{FitsCircuit}
use Rattle.inner_normal.specs.declared.moving.MovingNormal.{MovingNormal}
use Rattle.inner_normal.specs.Workings.{denominator, FitsNormal}
use Rattle.cone_walls.specs.Numbers.{FitsWall}

-- the normal that the reduced rows give
abbrev pub normal_of_rows : List (List ℤ) → MovingNormal
normal_of_rows made = record {
  p = shares (length made) 0 (denominator made) made;
  q = shares (suc (length made)) 0 (denominator made) made;
  den = pos (denominator made);
}

-- the wall line of the point at a position fits, if it is a further point
abbrev pub FitsPoint : MovingNormal → List Point → ℕ → ℕ → ℕ → Type 0
FitsPoint m s a b c = IsFurther s a b c → FitsWall m (point_at s a) (point_at s c)

-- the wall lines of a support's further points fit
abbrev pub FitsSupport : MovingNormal → List Point → ℕ → ℕ → Type 0
FitsSupport m s a b = (c : ℕ) → FitsPoint m s a b c

-- those of all further points
abbrev pub FitsWalls : Problem → Cell → MovingNormal → Type 0
FitsWalls p cell m = EachPair p.supports cell (FitsSupport m)

-- in version 2 the circuits of all further points fit
abbrev pub FitsCircuits : Problem → Cell → List (List ℤ) → Type 0
FitsCircuits p cell made = p.version ≡ version2 → (j c : ℕ) → IsFurtherAt p cell j c → FitsCircuit p cell j c made

-- what follows the elimination
abbrev pub FitsRest : Problem → Cell → List (List ℤ) → Type 0
FitsRest p cell made = FitsNormal p.dimension made × FitsWalls p cell (normal_of_rows made) × FitsCircuits p cell made

-- the elimination of the cell's rows fits, and where it doesn't end with a kernel, normal, wall lines and in version 2 circuits fit too
abbrev pub FitsWallWorking : Problem → Cell → Type 0
FitsWallWorking p cell = FitsBeyond p.dimension (edge_rows p cell) (FitsRest p cell)
