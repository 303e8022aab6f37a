-- Places in a list of lines, counted from 1.
use Rattle.std.specs.Prelude.{◌≡◌, ℕ, ◌-◌, ◌<◌, ◌≤◌, pos, List, [], length, slice_index_or}
use Rattle.crossing.specs.declared.line.WallLine.{WallLine}

abbrev pub origin : WallLine
origin = record { support = 0; position = 0; alpha = pos 0; beta = pos 0; fine = [] }

-- the list has a line at this place, and it is P
abbrev pub HasAt : (WallLine → Type 0) → List WallLine → ℕ → Type 0
HasAt P lines place = (1 ≤ place) × (place ≤ length lines) × P (slice_index_or lines (place - 1) origin)

-- no line is P
abbrev pub IsNowhere : (WallLine → Type 0) → List WallLine → Type 0
IsNowhere P lines = (place : ℕ) → ¬ (HasAt P lines place)

-- the first line that is P stands here
abbrev pub IsFirst : (WallLine → Type 0) → List WallLine → ℕ → Type 0
IsFirst P lines place = HasAt P lines place × ((other : ℕ) → other < place → ¬ (HasAt P lines other))

-- exactly one line is P, and it stands here
abbrev pub IsOnly : (WallLine → Type 0) → List WallLine → ℕ → Type 0
IsOnly P lines place = HasAt P lines place × ((other : ℕ) → HasAt P lines other → other ≡ place)

-- two or more lines are P, and the first two of them stand here
abbrev pub AreFirstTwo : (WallLine → Type 0) → List WallLine → ℕ → ℕ → Type 0
AreFirstTwo P lines first second = IsFirst P lines first × (first < second) × HasAt P lines second
    × ((other : ℕ) → first < other → other < second → ¬ (HasAt P lines other))
