-- A cell's life, by the two ends that its lines have.
use Rattle.std.specs.Prelude.{◌↔◌, List}
use Rattle.cayley.specs.Times.{Time}
use Rattle.cayley.specs.Problems.{Problem}
use Rattle.cayley.specs.Cells.{Cell}
use Rattle.cayley.specs.Mixed.{IsAlive}
use Rattle.crossing.specs.declared.line.WallLine.{WallLine}
use Rattle.crossing.specs.declared.entry.Entry.{Entry}
use Rattle.crossing.specs.declared.exit.Exit.{Exit}
use Rattle.crossing.specs.Between.{IsAfterEntry, IsBeforeExit}
use Rattle.crossing.specs.Entries.{IsEntry}
use Rattle.crossing.specs.Exits.{IsExit}

-- alive at no time
abbrev pub IsNeverAlive : Problem → Cell → Type 0
IsNeverAlive p cell = (t : Time) → ¬ (IsAlive p cell t)

-- alive exactly after the entry and before the exit of the lines
abbrev pub LivesBetween : Problem → Cell → List WallLine → Type 0
LivesBetween p cell lines = (e : Entry) (x : Exit) → IsEntry lines e → IsExit lines x
    → (t : Time) → IsAlive p cell t ↔ (IsAfterEntry e t.entries t.over × IsBeforeExit x t.entries t.over)
