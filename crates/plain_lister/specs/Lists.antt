-- What the lister answers.
use Rattle.std.specs.Prelude.{◌≡◌, List, Option, MatchOption}
use Rattle.cayley.specs.declared.found.FoundCell.{FoundCell}
use Rattle.cayley.specs.declared.found.Normal.{Normal}
use Rattle.cayley.specs.Problems.{Problem}
use Rattle.cayley.specs.Cells.{Cell, IsOf, IsLess}
use Rattle.cayley.specs.Mixed.{IsMixedCell, IsLowestNormal}
use Rattle.plain_lister.specs.declared.faults.PlainFault.{PlainFault}
use Rattle.plain_lister.specs.declared.faults.PlainFault.TheVariants.{TooMany, Overflow, OutOfMemory}
use Rattle.plain_lister.specs.Choices.{HasTooMany, IsExcess}
use Rattle.cone_walls.specs.Workings.{FitsWallWorking}

-- the found cell's normal is its cell's normal in lowest terms
abbrev pub HasLowestNormal : Problem → FoundCell → Type 0
HasLowestNormal p found = IsLowestNormal p found.cell found.normal.v found.normal.den

-- the cell's normal in lowest terms where it is a mixed cell, else none
abbrev pub IsJudged : Problem → Cell → Option Normal → Type 0
IsJudged p cell judged = MatchOption judged (¬ (IsMixedCell p cell)) (λ normal. IsMixedCell p cell × IsLowestNormal p cell normal.v normal.den)

-- the working of each choice fits
abbrev pub AllFit : Problem → Type 0
AllFit p = (cell : Cell) → IsOf p cell → FitsWallWorking p cell

-- the least choice whose working doesn't fit
abbrev pub IsFirstUnfit : Problem → Cell → Type 0
IsFirstUnfit p cell = IsOf p cell × ¬ (FitsWallWorking p cell)
    × ((other : Cell) → IsOf p other → IsLess other cell → FitsWallWorking p other)

-- why there is no list
abbrev pub IsPlainFault : Problem → PlainFault → Type 0
IsPlainFault p (TooMany choices) = HasTooMany p × IsExcess p choices
IsPlainFault p (Overflow cell) = ¬ (HasTooMany p) × IsFirstUnfit p cell
IsPlainFault p OutOfMemory = Unit {0}
