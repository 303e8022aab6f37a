-- What the inner functions find; no public clause cites these.
use Rattle.std.specs.Prelude.{◌≡◌, ℕ, ◌<◌, pos, neg_ℤ, List, length, Option, Some, None, MatchOption}
use Rattle.int_vectors.specs.Vectors.{IsPositive}
use Rattle.lex_height.specs.Order.{IsLess, IsSame}
use Rattle.crossing.specs.declared.line.WallLine.{WallLine}
use Rattle.crossing.specs.declared.leaders.Leaders.{Leaders}
use Rattle.crossing.specs.Lines.{constant, IsFlat}
use Rattle.crossing.specs.Leading.{start, nth, first_of}

-- the index of the first line that is zero at all times
abbrev pub IsFirstFlat : List WallLine → Option ℕ → Type 0
IsFirstFlat lines found = MatchOption found
    ((k : ℕ) → k < length lines → ¬ (IsFlat (nth lines k)))
    (λ index. (index < length lines) × IsFlat (nth lines index) × ((k : ℕ) → k < index → ¬ (IsFlat (nth lines k))))

-- zero or negative at all times, and level
abbrev pub IsLow : WallLine → Type 0
IsLow line = (line.beta ≡ pos 0) × ¬ (IsPositive (constant line))

-- the zero of a rising line comes before that of a falling line
abbrev pub RisesFirst : WallLine → WallLine → Type 0
RisesFirst rise fall = IsLess (λ k. neg_ℤ (start rise k)) rise.beta (start fall) (neg_ℤ fall.beta)

-- the two zeros are the same
abbrev pub RisesWith : WallLine → WallLine → Type 0
RisesWith rise fall = IsSame (λ k. neg_ℤ (start rise k)) rise.beta (start fall) (neg_ℤ fall.beta)

-- the zero of a rising line comes after that of a falling line
abbrev pub FallsFirst : WallLine → WallLine → Type 0
FallsFirst rise fall = IsLess (start fall) (neg_ℤ fall.beta) (λ k. neg_ℤ (start rise k)) rise.beta

abbrev pub IsOpenBetween : List WallLine → Option ℕ → Option ℕ → Type 0
IsOpenBetween lines None fall = Unit {0}
IsOpenBetween lines (Some rise) None = Unit {0}
IsOpenBetween lines (Some rise) (Some fall) = RisesFirst (nth lines rise) (nth lines fall)

-- where lines rise and lines fall, the last zero of the rising comes before the first of the falling
abbrev pub IsOpen : List WallLine → Leaders → Leaders → Type 0
IsOpen lines rising falling = IsOpenBetween lines (first_of rising) (first_of falling)
