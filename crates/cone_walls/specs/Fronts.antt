-- The falling lines that are zero first, by their numbers alone.
use Rattle.std.specs.Prelude.{◌≡◌, ℕ, List, [], length, pos, ◌<ℤ◌}
use Rattle.int_vectors.specs.Bounds.{IsNarrow}
use Rattle.lex_height.specs.Values as lex
use Rattle.cayley.specs.declared.found.Place.{Place}
use Rattle.crossing.specs.declared.line.WallLine.{WallLine}
use Rattle.crossing.specs.declared.leaders.Way.TheVariants.{Falling}
use Rattle.crossing.specs.declared.leaders.Leaders.TheVariants as led
use Rattle.crossing.specs.Leading.{IsLed, nth}
use Rattle.crossing.specs.Lines.{IsZeroAt}
use Rattle.cone_walls.specs.declared.fronts.Fall.{Fall}
use Rattle.cone_walls.specs.declared.fronts.Front.{Front}
use Rattle.cone_walls.specs.declared.fronts.Front.TheVariants.{Empty, One, Two}

-- the line with these numbers
abbrev pub line_by : Fall → WallLine
line_by f = record { support = f.support; position = f.position; alpha = f.alpha; beta = f.beta; fine = [] }

-- the line falls, and its numbers are far within 64 bits
abbrev pub IsFall : Fall → Type 0
IsFall f = (f.beta <ℤ pos 0) × IsNarrow f.alpha × IsNarrow f.beta

-- the place of its point
abbrev pub place_by : Fall → Place
place_by f = record { support = f.support; position = f.position }

-- the time at which it is zero, in lowest terms
abbrev pub IsTimeOf : Fall → lex.Value → Type 0
IsTimeOf f u = IsZeroAt (line_by f) u × lex.IsLowest u

abbrev pub AreFalls : Front → Type 0
AreFalls Empty = Unit {0}
AreFalls (One f) = IsFall f
AreFalls (Two f g) = IsFall f × IsFall g

-- no line falls; or of those that fall one alone is zero first; or the first two of several that are
abbrev pub IsFront : List WallLine → Front → Type 0
IsFront lines Empty = IsLed Falling lines (length lines) led.None
IsFront lines (One f) = (a : ℕ) × IsLed Falling lines (length lines) (led.One a) × (nth lines a ≡ line_by f)
IsFront lines (Two f g) = (a b : ℕ) × IsLed Falling lines (length lines) (led.Two a b) × (nth lines a ≡ line_by f) × (nth lines b ≡ line_by g)
