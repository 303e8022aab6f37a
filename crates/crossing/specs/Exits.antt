-- Where the time on which all lines are positive ends.
use Rattle.std.specs.Prelude.{ℕ, ℤ, pos, ◌<ℤ◌, List}
use Rattle.int_vectors.specs.Vectors.{IsZero}
use Rattle.lex_height.specs.Entries.{entries}
use Rattle.lex_height.specs.Values as lex
use Rattle.crossing.specs.declared.line.WallLine.{WallLine}
use Rattle.crossing.specs.declared.exit.Exit.{Exit}
use Rattle.crossing.specs.declared.exit.Exit.TheVariants.{Never, At, Tied, Flat}
use Rattle.crossing.specs.Lines.{value, IsEarlier, IsFlat, Falls, IsZeroAt}
use Rattle.crossing.specs.Places.{HasAt, IsNowhere, IsFirst, IsOnly, AreFirstTwo}

-- the line falls to zero at the time u
abbrev pub FallsAt : lex.Value → WallLine → Type 0
FallsAt u line = Falls line × IsZeroAt line u

-- a falling line that is zero at t / q isn't zero before u
abbrev pub IsLeastFall : List WallLine → lex.Value → Type 0
IsLeastFall lines u = (place : ℕ) (t : List ℤ) (q : ℤ) → pos 0 <ℤ q → HasAt (λ line. Falls line × IsZero (value line t q)) lines place → ¬ (IsEarlier t q (entries u.parts) u.den)

-- a line that is zero at all times: the first; else no line falls: never;
-- else the least zero of a falling line: of one line, or of two and more, the first two
abbrev pub IsExit : List WallLine → Exit → Type 0
IsExit lines (Flat which) = IsFirst IsFlat lines which
IsExit lines Never = IsNowhere IsFlat lines × IsNowhere Falls lines
IsExit lines (At u which) = IsNowhere IsFlat lines × lex.IsLowest u × IsLeastFall lines u × IsOnly (FallsAt u) lines which
IsExit lines (Tied u first second) = IsNowhere IsFlat lines × lex.IsLowest u × IsLeastFall lines u × AreFirstTwo (FallsAt u) lines first second
