-- What the list holds while the choices are tried in cell order.
use Rattle.std.specs.Prelude.{◌≡◌, ◌⊎◌, ℕ, ◌+◌, Bool, true, false, List}
use Rattle.int_vectors.specs.Vectors.{Each}
use Rattle.cayley.specs.declared.found.FoundCell.{FoundCell}
use Rattle.cayley.specs.Problems.{Problem}
use Rattle.cayley.specs.Cells.{Cell, IsOf, IsLess, IsListOf}
use Rattle.cayley.specs.Mixed.{IsMixedCell}
use Rattle.cayley.specs.Stored.{cells_of}
use Rattle.plain_lister.specs.declared.faults.PlainFault.{PlainFault}
use Rattle.plain_lister.specs.declared.faults.PlainFault.TheVariants.{TooMany, Overflow, OutOfMemory}
use Rattle.plain_lister.specs.Lists.{HasLowestNormal, IsFirstUnfit}
use Rattle.plain_lister.specs.Order.{left_after}
use Rattle.cone_walls.specs.Workings.{FitsWallWorking}

-- of the choices in D the workings fit, and the mixed cells are found, each once, in cell order
pub record IsDone (p : Problem) (D : Cell → Type 0) (found : List FoundCell) : Type 0 where
  pub list : IsListOf (λ cell. D cell × IsMixedCell p cell) (cells_of found)
  pub lowest : Each found (HasLowestNormal p)
  pub fit : (cell : Cell) → IsOf p cell → D cell → FitsWallWorking p cell

abbrev pub Before : Cell → Cell → Type 0
Before cell other = IsLess other cell

abbrev pub UpTo : Cell → Cell → Type 0
UpTo cell other = IsLess other cell ⊎ (other ≡ cell)

-- those before the cell while it goes on, then all
abbrev pub Tried : Bool → Cell → Cell → Type 0
Tried true cell other = IsLess other cell
Tried false cell other = Unit {0}

-- the working of this cell doesn't fit
abbrev pub IsUnfitAt : Problem → Cell → PlainFault → Type 0
IsUnfitAt p cell (TooMany choices) = ⊥
IsUnfitAt p cell (Overflow other) = (other ≡ cell) × ¬ (FitsWallWorking p cell)
IsUnfitAt p cell OutOfMemory = Unit {0}

-- the least choice whose working doesn't fit
abbrev pub IsSearchFault : Problem → PlainFault → Type 0
IsSearchFault p (TooMany choices) = ⊥
IsSearchFault p (Overflow cell) = IsFirstUnfit p cell
IsSearchFault p OutOfMemory = Unit {0}

-- a number that falls with each choice
abbrev pub steps_left : Bool → List ℕ → Cell → ℕ
steps_left true counts cell = left_after counts cell + 1
steps_left false counts cell = 0
