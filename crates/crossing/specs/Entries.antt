-- Where the time on which all lines are positive begins.
use Rattle.std.specs.Prelude.{ℕ, ℤ, pos, ◌<ℤ◌, List}
use Rattle.int_vectors.specs.Vectors.{IsZero}
use Rattle.lex_height.specs.Entries.{entries}
use Rattle.lex_height.specs.Values as lex
use Rattle.crossing.specs.declared.line.WallLine.{WallLine}
use Rattle.crossing.specs.declared.entry.Entry.{Entry}
use Rattle.crossing.specs.declared.entry.Entry.TheVariants.{Always, At, Tied, Dead}
use Rattle.crossing.specs.Lines.{value, IsEarlier, Rises, IsZeroAt, ArePositive}
use Rattle.crossing.specs.Places.{HasAt, IsNowhere, IsOnly, AreFirstTwo}

-- the line rises from zero at the time u
abbrev pub RisesAt : lex.Value → WallLine → Type 0
RisesAt u line = Rises line × IsZeroAt line u

-- a rising line that is zero at t / q isn't zero after u
abbrev pub IsGreatestRise : List WallLine → lex.Value → Type 0
IsGreatestRise lines u = (place : ℕ) (t : List ℤ) (q : ℤ) → pos 0 <ℤ q → HasAt (λ line. Rises line × IsZero (value line t q)) lines place → ¬ (IsEarlier (entries u.parts) u.den t q)

-- some time t / q makes every line positive
abbrev pub LiveSometime : List WallLine → Type 0
LiveSometime lines = (t : List ℤ) × (q : ℤ) × (pos 0 <ℤ q) × ArePositive lines t q

-- no time makes every line positive: dead; else no line rises: always;
-- else the greatest zero of a rising line: of one line, or of two and more, the first two
abbrev pub IsEntry : List WallLine → Entry → Type 0
IsEntry lines Dead = ¬ (LiveSometime lines)
IsEntry lines Always = LiveSometime lines × IsNowhere Rises lines
IsEntry lines (At u which) = LiveSometime lines × lex.IsLowest u × IsGreatestRise lines u × IsOnly (RisesAt u) lines which
IsEntry lines (Tied u first second) = LiveSometime lines × lex.IsLowest u × IsGreatestRise lines u × AreFirstTwo (RisesAt u) lines first second
