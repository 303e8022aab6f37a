-- The tie of lines that is named: at an end of the span, which is the set of times at which no line is negative.
use Rattle.std.specs.Prelude.{◌≡◌, ◌⊎◌, ℕ, ℤ, pos, ◌<ℤ◌, List, Option, Some, None, All}
use Rattle.int_vectors.specs.Vectors.{IsZero, IsPositive}
use Rattle.lex_height.specs.Entries.{entries}
use Rattle.lex_height.specs.Values as lex
use Rattle.crossing.specs.declared.line.WallLine.{WallLine}
use Rattle.crossing.specs.declared.ties.Tie.{Tie}
use Rattle.crossing.specs.Lines.{value, IsEarlier, IsFlat}
use Rattle.crossing.specs.Places.{HasAt, IsNowhere, IsFirst, AreFirstTwo}

-- zero at t / q
abbrev pub IsZeroThen : List ℤ → ℤ → WallLine → Type 0
IsZeroThen t q line = IsZero (value line t q)

-- positive or zero at t / q
abbrev pub IsNotNegative : List ℤ → ℤ → WallLine → Type 0
IsNotNegative t q line = IsPositive (value line t q) ⊎ IsZero (value line t q)

-- no line is negative at t / q
abbrev pub InSpan : List WallLine → List ℤ → ℤ → Type 0
InSpan lines t q = All (IsNotNegative t q) lines

-- a time of the span, and no time before it is
abbrev pub IsLowerEnd : List WallLine → List ℤ → ℤ → Type 0
IsLowerEnd lines t q = InSpan lines t q × ((u : List ℤ) (p : ℤ) → pos 0 <ℤ p → IsEarlier u p t q → ¬ (InSpan lines u p))

-- a time of the span, and no time after it is
abbrev pub IsUpperEnd : List WallLine → List ℤ → ℤ → Type 0
IsUpperEnd lines t q = InSpan lines t q × ((u : List ℤ) (p : ℤ) → pos 0 <ℤ p → IsEarlier t q u p → ¬ (InSpan lines u p))

abbrev pub NoLowerEnd : List WallLine → Type 0
NoLowerEnd lines = (t : List ℤ) (q : ℤ) → pos 0 <ℤ q → ¬ (IsLowerEnd lines t q)

abbrev pub NoUpperEnd : List WallLine → Type 0
NoUpperEnd lines = (t : List ℤ) (q : ℤ) → pos 0 <ℤ q → ¬ (IsUpperEnd lines t q)

-- the span's lower end; without one its upper end; without both the time 0
abbrev pub IsFirstEnd : List WallLine → List ℤ → ℤ → Type 0
IsFirstEnd lines t q = IsLowerEnd lines t q ⊎ (NoLowerEnd lines × IsUpperEnd lines t q) ⊎ (NoLowerEnd lines × NoUpperEnd lines × IsZero t)

-- the first two lines that are zero at the lower end
abbrev pub IsLowerTie : List WallLine → List ℤ → ℤ → ℕ → ℕ → Type 0
IsLowerTie lines t q first second = IsLowerEnd lines t q × AreFirstTwo (IsZeroThen t q) lines first second

-- the first two lines that are zero at the upper end
abbrev pub IsUpperTie : List WallLine → List ℤ → ℤ → ℕ → ℕ → Type 0
IsUpperTie lines t q first second = IsUpperEnd lines t q × AreFirstTwo (IsZeroThen t q) lines first second

abbrev pub NoLowerTie : List WallLine → Type 0
NoLowerTie lines = (t : List ℤ) (q : ℤ) (first second : ℕ) → pos 0 <ℤ q → ¬ (IsLowerTie lines t q first second)

-- the first line that is zero at all times comes first, then the lower end, then the upper one
abbrev pub IsTieAt : List WallLine → List ℤ → ℤ → ℕ → Option ℕ → Type 0
IsTieAt lines t q first None = IsFirst IsFlat lines first × InSpan lines t q × IsFirstEnd lines t q
IsTieAt lines t q first (Some second) = IsNowhere IsFlat lines × (IsLowerTie lines t q first second ⊎ (NoLowerTie lines × IsUpperTie lines t q first second))

-- the tie that is named for the lines
abbrev pub IsTie : List WallLine → Tie → Type 0
IsTie lines tie = lex.IsLowest tie.time × IsTieAt lines (entries tie.time.parts) tie.time.den tie.first tie.second

-- at no time of the span two lines are zero, or one that is zero at all times
abbrev pub HasNoTie : List WallLine → Type 0
HasNoTie lines = (t : List ℤ) (q : ℤ) → pos 0 <ℤ q → InSpan lines t q
    → IsNowhere IsFlat lines × ((i j : ℕ) → HasAt (IsZeroThen t q) lines i → HasAt (IsZeroThen t q) lines j → i ≡ j)
