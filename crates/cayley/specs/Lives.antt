-- Cells over time: just before and just after a time, at all early and all late times, and where they begin and end.
use Rattle.std.specs.Prelude.{◌≡◌, List, ℤ}
use Rattle.cayley.specs.Times.{Time, IsBefore}
use Rattle.cayley.specs.Problems.{Problem}
use Rattle.cayley.specs.Cells.{Cell}
use Rattle.cayley.specs.Mixed.{IsAlive}

-- alive at all times of some open interval that ends at t
abbrev pub AliveJustBefore : Problem → Cell → Time → Type 0
AliveJustBefore p cell t = (u : Time) × IsBefore u t × ((x : Time) → IsBefore u x → IsBefore x t → IsAlive p cell x)

-- alive at all times of some open interval that begins at t
abbrev pub AliveJustAfter : Problem → Cell → Time → Type 0
AliveJustAfter p cell t = (u : Time) × IsBefore t u × ((x : Time) → IsBefore t x → IsBefore x u → IsAlive p cell x)

-- alive at all times before some time
abbrev pub AliveEarly : Problem → Cell → Type 0
AliveEarly p cell = (u : Time) × ((x : Time) → IsBefore x u → IsAlive p cell x)

-- alive at all times after some time
abbrev pub AliveLate : Problem → Cell → Type 0
AliveLate p cell = (u : Time) × ((x : Time) → IsBefore u x → IsAlive p cell x)

-- alive just after t and not at t
abbrev pub BeginsAt : Problem → Cell → Time → Type 0
BeginsAt p cell t = AliveJustAfter p cell t × ¬ (IsAlive p cell t)

-- alive just before t and not at t
abbrev pub EndsAt : Problem → Cell → Time → Type 0
EndsAt p cell t = AliveJustBefore p cell t × ¬ (IsAlive p cell t)

-- where a cell begins: at the start, or at the time of these entries over this number
pub data Begin : Type 0 where
  at_start : Begin
  at_time : List ℤ → ℤ → Begin

-- to begin at the start is to be alive at all early times
abbrev pub BeginsAs : Problem → Cell → Begin → Type 0
BeginsAs p cell at_start = AliveEarly p cell
BeginsAs p cell (at_time entries over) = (t : Time) × (t.entries ≡ entries) × (t.over ≡ over) × BeginsAt p cell t
