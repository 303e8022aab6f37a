-- Where the time on which no line of one way is negative ends; no public clause cites these.
use Rattle.std.specs.Prelude.{◌≡◌, ◌≢◌, ℕ, ◌<◌, min, pos, List, [], length, Option, Some, None, MatchOption}
use Rattle.int_vectors.specs.Vectors.{IsPositive}
use Rattle.lex_height.specs.Values as lex
use Rattle.crossing.specs.declared.line.WallLine.{WallLine}
use Rattle.crossing.specs.declared.leaders.Way.{Way}
use Rattle.crossing.specs.declared.leaders.Leaders.{Leaders}
use Rattle.crossing.specs.declared.leaders.Leaders.TheVariants as led
use Rattle.crossing.specs.declared.ends.End.{End}
use Rattle.crossing.specs.declared.ends.Pair.{Pair}
use Rattle.crossing.specs.Lines.{constant, IsFlat, IsZeroAt}
use Rattle.crossing.specs.Leading.{IsLed, nth}

abbrev pub led_by : ℕ → Option ℕ → Leaders
led_by a None = led.One a
led_by a (Some b) = led.Two a b

-- the zero of the leaders
abbrev pub IsEnd : Way → List WallLine → Option End → Type 0
IsEnd way lines None = IsLed way lines (length lines) led.None
IsEnd way lines (Some end) = lex.IsLowest end.time × IsZeroAt (nth lines end.first) end.time × IsLed way lines (length lines) (led_by end.first end.second)

-- negative at all times
abbrev pub IsSunk : WallLine → Type 0
IsSunk line = (line.beta ≡ pos 0) × ¬ (IsPositive (constant line)) × ¬ (IsFlat line)

-- both ends are there, and the upper one is before the lower one
abbrev pub AreCrossed : Option End → Option End → Type 0
AreCrossed None upper = ⊥
AreCrossed (Some l) None = ⊥
AreCrossed (Some l) (Some u) = lex.IsBelow u.time l.time

-- the time of the lower end; without one of the upper; without both 0
abbrev pub IsEndTime : Option End → Option End → lex.Value → Type 0
IsEndTime (Some l) upper t = t ≡ l.time
IsEndTime None (Some u) t = t ≡ u.time
IsEndTime None None t = lex.IsLowest t × lex.HasValue t [] (pos 1)

abbrev pub pair_with : lex.Value → ℕ → Option ℕ → Option Pair
pair_with time a None = None
pair_with time a (Some b) = Some (record { time = time; first = a; second = b })

-- the two lines of an end that has two
abbrev pub pair_of : Option End → Option Pair
pair_of None = None
pair_of (Some end) = pair_with end.time end.first end.second

abbrev pub earlier_of : Option ℕ → ℕ → ℕ
earlier_of None b = b
earlier_of (Some a) b = min a b

-- the first two of the lines of two ends at one time
abbrev pub IsFirstPair : End → End → Pair → Type 0
IsFirstPair l u pair =
    (l.first < u.first → pair ≡ record { time = l.time; first = l.first; second = earlier_of l.second u.first })
    × (¬ (l.first < u.first) → pair ≡ record { time = l.time; first = u.first; second = earlier_of u.second l.first })

abbrev pub IsMeeting : Option End → Option End → Option Pair → Type 0
IsMeeting None upper pair = pair ≡ None
IsMeeting (Some l) None pair = pair ≡ None
IsMeeting (Some l) (Some u) pair = MatchOption pair (l.time ≢ u.time) (λ z. (l.time ≡ u.time) × IsFirstPair l u z)
