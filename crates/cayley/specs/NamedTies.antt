-- The tie that is named for an independent cell.
use Rattle.std.specs.Prelude.{◌≡◌, ◌⊎◌, ◌↔◌, ◌-◌, Option, None, Some}
use Rattle.cayley.specs.Times.{Time, IsBefore, IsSameTime, time_zero}
use Rattle.cayley.specs.Problems.{Problem, IsProblem}
use Rattle.cayley.specs.Cells.{Cell, IsOf, IsIndependent}
use Rattle.cayley.specs.Normals.{Normal, IsNormal, IsLevel, NoneBelow}
use Rattle.cayley.specs.Dependencies.{pair_at, nth_support}
use Rattle.cayley.specs.Ties.{IsTie}
use Rattle.cayley.specs.StoredTies.{Spot, IsEarlier, IsFurtherSpot, IsAlwaysLevel, ShowsTie}

-- the span is the set of times at which no further point is below
abbrev pub InSpan : Problem → Cell → Time → Type 0
InSpan p cell t = (v : Normal) × IsNormal p cell t v × NoneBelow p cell t v

-- a time of the span, and no time before it is
abbrev pub IsLowerEnd : Problem → Cell → Time → Type 0
IsLowerEnd p cell t = InSpan p cell t × ((u : Time) → IsBefore u t → ¬ (InSpan p cell u))

-- a time of the span, and no time after it is
abbrev pub IsUpperEnd : Problem → Cell → Time → Type 0
IsUpperEnd p cell t = InSpan p cell t × ((u : Time) → IsBefore t u → ¬ (InSpan p cell u))

abbrev pub NoLowerEnd : Problem → Cell → Type 0
NoLowerEnd p cell = (u : Time) → ¬ (IsLowerEnd p cell u)

abbrev pub NoUpperEnd : Problem → Cell → Type 0
NoUpperEnd p cell = (u : Time) → ¬ (IsUpperEnd p cell u)

-- a further point that is level at t, whatever the normal
abbrev pub IsLevelThen : Problem → Cell → Time → Spot → Type 0
IsLevelThen p cell t x = IsFurtherSpot p cell x
    × ((v : Normal) → IsNormal p cell t v → IsLevel t v (nth_support p.supports (x.0 - 1)) (pair_at cell (x.0 - 1)).0 x.1)

-- the first place with a property
abbrev pub IsFirst : (Spot → Type 0) → Spot → Type 0
IsFirst P x = P x × ((y : Spot) → P y → ¬ (IsEarlier y x))

-- the first place with it, and the first behind that
abbrev pub AreFirstTwo : (Spot → Type 0) → Spot → Spot → Type 0
AreFirstTwo P x y = IsFirst P x × IsFirst (λ z. P z × IsEarlier x z) y

-- the first point that is level at all times, at the lower end; without one at the upper end; without both at 0
abbrev pub IsFlatTie : Problem → Cell → Time → Spot → Type 0
IsFlatTie p cell t x = IsFirst (IsAlwaysLevel p cell) x × InSpan p cell t
    × (IsLowerEnd p cell t ⊎ (NoLowerEnd p cell × IsUpperEnd p cell t) ⊎ (NoLowerEnd p cell × NoUpperEnd p cell × IsSameTime t time_zero))

-- the first two points that are level at the lower end
abbrev pub IsLowerTie : Problem → Cell → Time → Spot → Spot → Type 0
IsLowerTie p cell t x y = IsLowerEnd p cell t × AreFirstTwo (IsLevelThen p cell t) x y

-- the first two points that are level at the upper end
abbrev pub IsUpperTie : Problem → Cell → Time → Spot → Spot → Type 0
IsUpperTie p cell t x y = IsUpperEnd p cell t × AreFirstTwo (IsLevelThen p cell t) x y

-- a point that is level at all times comes first, then the lower end, then the upper one
abbrev pub IsNamedAs : Problem → Cell → Time → Spot → Option Spot → Type 0
IsNamedAs p cell t x None = IsFlatTie p cell t x
IsNamedAs p cell t x (Some y) = ((z : Spot) → ¬ (IsAlwaysLevel p cell z))
    × (IsLowerTie p cell t x y ⊎ (((u : Time) (z w : Spot) → ¬ (IsLowerTie p cell u z w)) × IsUpperTie p cell t x y))

-- the tie that is named for an independent cell of the problem
abbrev pub IsNamedTie : Problem → Cell → Time → Spot → Option Spot → Type 0
IsNamedTie p cell t x second = IsOf p cell × IsIndependent p cell × IsNamedAs p cell t x second

-- the named tie is shown by its time and places
abbrev pub NamedIsShownLaw : Type 0
NamedIsShownLaw = (p : Problem) (cell : Cell) (t : Time) (x : Spot) (second : Option Spot) → IsNamedTie p cell t x second → ShowsTie p cell t x second

-- a cell has a named tie exactly where it has a tie at some time
abbrev pub NamedTieLaw : Type 0
NamedTieLaw = (p : Problem) (cell : Cell) → IsProblem p
    → ((t : Time) × (x : Spot) × (second : Option Spot) × IsNamedTie p cell t x second) ↔ ((t : Time) × (v : Normal) × IsTie p cell t v)

-- a cell has one named tie: the same time and the same places
abbrev pub OneNamedTieLaw : Type 0
OneNamedTieLaw = (p : Problem) (cell : Cell) (t u : Time) (x y : Spot) (s r : Option Spot) → IsProblem p → IsNamedTie p cell t x s → IsNamedTie p cell u y r
    → IsSameTime t u × (x ≡ y) × (s ≡ r)
