-- Ties as they are shown: by a time and one or two places (support, position), which count from 1.
use Rattle.std.specs.Prelude.{◌≡◌, ◌⊎◌, ℕ, ◌-◌, ◌<◌, ◌≤◌, Option, None, Some}
use Rattle.cayley.specs.Times.{Time}
use Rattle.cayley.specs.Problems.{Problem, IsProblem}
use Rattle.cayley.specs.Cells.{Cell, IsOf, IsIndependent}
use Rattle.cayley.specs.Normals.{Normal, IsNormal, IsLevel, NoneBelow}
use Rattle.cayley.specs.Lives.{BeginsAt, EndsAt}
use Rattle.cayley.specs.Dependencies.{pair_at, IsFurtherAt, nth_support}
use Rattle.cayley.specs.Ties.{IsLevelAt, IsTie}

-- support and position of a point
abbrev pub Spot : Type 0
Spot = ℕ × ℕ

-- the one stands before the other: by support, then by position
abbrev pub IsEarlier : Spot → Spot → Type 0
IsEarlier x y = (x.0 < y.0) ⊎ ((x.0 ≡ y.0) × (x.1 < y.1))

-- a further point of the cell stands there
abbrev pub IsFurtherSpot : Problem → Cell → Spot → Type 0
IsFurtherSpot p cell x = (1 ≤ x.0) × IsFurtherAt p cell (x.0 - 1) x.1

-- a further point that is level at this time and normal
abbrev pub IsLevelSpot : Problem → Cell → Time → Normal → Spot → Type 0
IsLevelSpot p cell t v x = (1 ≤ x.0) × IsLevelAt p cell t v (x.0 - 1) x.1

-- a further point that is level at every time and normal
abbrev pub IsAlwaysLevel : Problem → Cell → Spot → Type 0
IsAlwaysLevel p cell x = IsFurtherSpot p cell x
    × ((t : Time) (v : Normal) → IsNormal p cell t v → IsLevel t v (nth_support p.supports (x.0 - 1)) (pair_at cell (x.0 - 1)).0 x.1)

-- one place: level at all times; two places: both level here, in order
abbrev pub AreLevel : Problem → Cell → Time → Normal → Spot → Option Spot → Type 0
AreLevel p cell t v first None = IsAlwaysLevel p cell first
AreLevel p cell t v first (Some second) = IsLevelSpot p cell t v first × IsLevelSpot p cell t v second × IsEarlier first second

-- an independent cell of the problem that has a normal at t with no further point below and these points level
abbrev pub ShowsTie : Problem → Cell → Time → Spot → Option Spot → Type 0
ShowsTie p cell t first second = IsOf p cell × IsIndependent p cell × ((v : Normal) × IsNormal p cell t v × NoneBelow p cell t v × AreLevel p cell t v first second)

-- the same where the cell begins or ends
abbrev pub ShowsTieAtEnd : Problem → Cell → Time → Spot → Option Spot → Type 0
ShowsTieAtEnd p cell t first second = ShowsTie p cell t first second × (BeginsAt p cell t ⊎ EndsAt p cell t)

-- what is shown is a tie
abbrev pub ShownTieLaw : Type 0
ShownTieLaw = (p : Problem) (cell : Cell) (t : Time) (first : Spot) (second : Option Spot) → IsProblem p → ShowsTie p cell t first second
    → (v : Normal) × IsTie p cell t v
