-- What stands in the caller's memory.
use Rattle.std.specs.Prelude.{◌≡◌, ◌⊎◌, ◌<◌, ℕ, List, ◌++◌, length, drop}
use Rattle.mixedcells.specs.declared.outcome.Outcome.{Outcome}
use Rattle.mixedcells.specs.Outcomes.{status_of}

-- the status that tells of no memory, which an outcome has too
abbrev pub no_memory : ℕ
no_memory = 8

-- the status that tells of no room, which no outcome has
abbrev pub no_room : ℕ
no_room = 256

-- the bytes that a sink holds, and how many of its writes failed
pub record Grown : Type 0 where
  pub held : List ℕ
  pub faults : ℕ

-- no answer is given, for want of memory or of room
abbrev pub IsWithheld : ℕ → Type 0
IsWithheld status = (status ≡ no_memory) ⊎ (status ≡ no_room)

-- the text stands at the front of the room, its length is told, and what stood behind it stays
abbrev pub Stands : List ℕ → List ℕ → List ℕ → ℕ → Type 0
Stands text old new needed = (needed ≡ length text) × (new ≡ text ++ drop (length text) old)

-- such a text stands there
abbrev pub Holds : (List ℕ → Type 0) → List ℕ → List ℕ → ℕ → Type 0
Holds IsWanted old new needed = (text : List ℕ) × IsWanted text × Stands text old new needed

-- the outcome's status came, and the text stands in the room
abbrev pub IsGiven : Outcome → List ℕ → List ℕ → List ℕ → ℕ → ℕ → Type 0
IsGiven outcome text old new needed status = (status ≡ status_of outcome) × Stands text old new needed

-- the text is longer than the room, which stays; its length is told
abbrev pub HasNoRoom : List ℕ → List ℕ → List ℕ → ℕ → ℕ → Type 0
HasNoRoom text old new needed status = (status ≡ no_room) × (needed ≡ length text) × (length old < length text) × (new ≡ old)

-- there was no memory, and the room stays
abbrev pub HasNoMemory : List ℕ → List ℕ → ℕ → ℕ → Type 0
HasNoMemory old new needed status = (status ≡ no_memory) × (needed ≡ 0) × (new ≡ old)
