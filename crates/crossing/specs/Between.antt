-- The lines are positive exactly between their entry and their exit.
use Rattle.std.specs.Prelude.{◌↔◌, ℤ, pos, ◌<ℤ◌, List}
use Rattle.lex_height.specs.Entries.{entries}
use Rattle.crossing.specs.declared.line.WallLine.{WallLine}
use Rattle.crossing.specs.declared.entry.Entry.{Entry}
use Rattle.crossing.specs.declared.entry.Entry.TheVariants as entry
use Rattle.crossing.specs.declared.exit.Exit.{Exit}
use Rattle.crossing.specs.declared.exit.Exit.TheVariants as exit
use Rattle.crossing.specs.Lines.{IsEarlier, ArePositive}
use Rattle.crossing.specs.Entries.{IsEntry}
use Rattle.crossing.specs.Exits.{IsExit}

-- t / q is after the entry's time, if it has one
abbrev pub IsAfterEntry : Entry → List ℤ → ℤ → Type 0
IsAfterEntry entry.Dead t q = ⊥
IsAfterEntry entry.Always t q = Unit {0}
IsAfterEntry (entry.At u which) t q = IsEarlier (entries u.parts) u.den t q
IsAfterEntry (entry.Tied u first second) t q = IsEarlier (entries u.parts) u.den t q

-- t / q is before the exit's time, if it has one
abbrev pub IsBeforeExit : Exit → List ℤ → ℤ → Type 0
IsBeforeExit (exit.Flat which) t q = ⊥
IsBeforeExit exit.Never t q = Unit {0}
IsBeforeExit (exit.At u which) t q = IsEarlier t q (entries u.parts) u.den
IsBeforeExit (exit.Tied u first second) t q = IsEarlier t q (entries u.parts) u.den

-- the lines are positive at exactly the times after their entry and before their exit
abbrev pub PositiveBetween : Type 0
PositiveBetween = (lines : List WallLine) (e : Entry) (x : Exit) → IsEntry lines e → IsExit lines x → (t : List ℤ) (q : ℤ) → pos 0 <ℤ q → ArePositive lines t q ↔ (IsAfterEntry e t q × IsBeforeExit x t q)
