-- What a move along a segment finds.
use Rattle.std.specs.Prelude.{◌≡◌, ◌⊎◌, List, Contains}
use Rattle.int_vectors.specs.Vectors.{Each}
use Rattle.cayley.specs.declared.found.FoundCell.{FoundCell}
use Rattle.cayley.specs.Times.{time_zero}
use Rattle.cayley.specs.Problems.{Problem}
use Rattle.cayley.specs.Cells.{Cell, IsListOf}
use Rattle.cayley.specs.Mixed.{IsAlive}
use Rattle.cayley.specs.Stored.{cells_of}
use Rattle.inner_normal.specs.Workings.{FitsNormalWorking}
use Rattle.searcher.specs.declared.expansions.HaltCause.{HaltCause}
use Rattle.searcher.specs.declared.expansions.HaltCause.TheVariants.{Tie, Overflow, OutOfMemory}
use Rattle.searcher.specs.Expansions.{HasLowestNormal}
use Rattle.searcher.specs.Passes.{IsReached, IsLedBy, IsTieOnTheWay}
use Rattle.searcher.specs.Workings.{FitsWorking}

-- exactly the cells that are alive at time 1 and have a given cell in their chain, each once, in cell order, with its normal in lowest terms in the second problem
pub record AreMoved (segment second : Problem) (given : List Cell) (found : List FoundCell) : Type 0 where
  pub cells : IsListOf (IsReached segment given) (cells_of found)
  pub normals : Each found (HasLowestNormal second)

-- a number of the cell's elimination, kernel, denominator or normal over the second lift doesn't fit, and the cell is one that is reached
abbrev pub IsUnfitAtEnd : Problem → Problem → List Cell → Cell → Type 0
IsUnfitAtEnd segment second given cell = IsReached segment given cell × ¬ (FitsNormalWorking second cell)

-- why a move halts, at a cell whose chain has a given cell in it: a tie on the way, or a working that doesn't fit, in the segment or at its end
abbrev pub IsMoveHalt : Problem → Problem → List Cell → HaltCause → Type 0
IsMoveHalt segment second given (Tie proof) = IsTieOnTheWay segment proof × IsLedBy segment given proof.cell
IsMoveHalt segment second given (Overflow cell) = IsLedBy segment given cell × (¬ (FitsWorking segment cell) ⊎ IsUnfitAtEnd segment second given cell)
IsMoveHalt segment second given OutOfMemory = Unit {0}

-- all cells that are alive at time 0
abbrev pub AreAll : Problem → List Cell → Type 0
AreAll segment given = IsListOf (λ cell. IsAlive segment cell time_zero) given

-- the workings of all cells on the way and of those at the end fit
abbrev pub FitAllOnTheWay : Problem → Problem → List Cell → Type 0
FitAllOnTheWay segment second given = ((cell : Cell) → IsLedBy segment given cell → FitsWorking segment cell)
    × ((cell : Cell) → IsReached segment given cell → FitsNormalWorking second cell)

-- no cell is told whose working doesn't fit
abbrev pub HasNoOverflow : HaltCause → Type 0
HasNoOverflow (Tie proof) = Unit {0}
HasNoOverflow (Overflow cell) = ⊥
HasNoOverflow OutOfMemory = Unit {0}

-- the cell's elimination, kernel, denominator or normal doesn't fit
abbrev pub IsUnfitCell : Problem → Cell → HaltCause → Type 0
IsUnfitCell second cell (Tie proof) = ⊥
IsUnfitCell second cell (Overflow z) = (z ≡ cell) × ¬ (FitsNormalWorking second cell)
IsUnfitCell second cell OutOfMemory = Unit {0}

-- that of one of the cells
abbrev pub AreUnfit : Problem → List Cell → HaltCause → Type 0
AreUnfit second cells (Tie proof) = ⊥
AreUnfit second cells (Overflow z) = Contains cells z × ¬ (FitsNormalWorking second z)
AreUnfit second cells OutOfMemory = Unit {0}
