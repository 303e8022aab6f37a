-- Which lines of one way become zero first, as seen from where all of them are positive.
use Rattle.std.specs.Prelude.{◌≢◌, ℕ, ◌<◌, ℤ, pos, neg_ℤ, ◌<ℤ◌, List, slice_index_or, Option, Some, None}
use Rattle.lex_height.specs.Entries.{at_rank}
use Rattle.lex_height.specs.Order.{IsLess, IsSame}
use Rattle.crossing.specs.declared.line.WallLine.{WallLine}
use Rattle.crossing.specs.declared.leaders.Way.{Way}
use Rattle.crossing.specs.declared.leaders.Way.TheVariants.{Falling, Rising}
use Rattle.crossing.specs.declared.leaders.Leaders.{Leaders}
use Rattle.crossing.specs.declared.leaders.Leaders.TheVariants as led
use Rattle.crossing.specs.Lines.{constant}
use Rattle.crossing.specs.Places.{origin}

-- how much the line goes this way in one unit of time
abbrev pub steep : Way → WallLine → ℤ
steep Falling line = neg_ℤ line.beta
steep Rising line = line.beta

abbrev pub Goes : Way → WallLine → Type 0
Goes way line = pos 0 <ℤ steep way line

-- the entries of the value at time 0, by rank
abbrev pub start : WallLine → ℕ → ℤ
start line = at_rank (constant line)

-- the start over the steepness is less: the zero comes before the other's
abbrev pub IsBefore : Way → WallLine → WallLine → Type 0
IsBefore way x y = IsLess (start x) (steep way x) (start y) (steep way y)

-- the two zeros are the same
abbrev pub IsEven : Way → WallLine → WallLine → Type 0
IsEven way x y = IsSame (start x) (steep way x) (start y) (steep way y)

abbrev pub nth : List WallLine → ℕ → WallLine
nth lines k = slice_index_or lines k origin

-- the leaders among the first n lines
abbrev pub IsLed : Way → List WallLine → ℕ → Leaders → Type 0
IsLed way lines n led.None = (k : ℕ) → k < n → ¬ (Goes way (nth lines k))
IsLed way lines n (led.One a) = (a < n) × Goes way (nth lines a) × ((k : ℕ) → k < n → Goes way (nth lines k) → k ≢ a → IsBefore way (nth lines a) (nth lines k))
IsLed way lines n (led.Two a b) = (a < b) × (b < n) × Goes way (nth lines a) × Goes way (nth lines b) × IsEven way (nth lines a) (nth lines b)
    × ((k : ℕ) → k < b → Goes way (nth lines k) → k ≢ a → IsBefore way (nth lines a) (nth lines k))
    × ((k : ℕ) → k < n → Goes way (nth lines k) → ¬ (IsBefore way (nth lines k) (nth lines a)))

abbrev pub first_of : Leaders → Option ℕ
first_of led.None = None
first_of (led.One a) = Some a
first_of (led.Two a b) = Some a
