-- Faults of a text, and what an answer says of a reading.
use Rattle.std.specs.Prelude.{◌≡◌, ℕ, List, [], ◌∷◌, ◌++◌, Result, Ok, Err, zero, suc}
use Rattle.support_text.specs.declared.fault.Kind.{Kind}
use Rattle.support_text.specs.declared.fault.Kind.TheVariants.{Header, Dim, Count, Number, Range, Repeated, Start, Missing, Extra}
use Rattle.support_text.specs.declared.fault.FormatFault.{FormatFault}
use Rattle.support_text.specs.declared.fault.TextFault.{TextFault}
use Rattle.support_text.specs.declared.fault.TextFault.TheVariants.{Format, OutOfMemory}

-- the numbers of the kinds
abbrev pub kind_number : Kind → ℕ
kind_number Header = 1
kind_number Dim = 2
kind_number Count = 3
kind_number Number = 4
kind_number Range = 5
kind_number Repeated = 6
kind_number Start = 7
kind_number Missing = 8
kind_number Extra = 9

-- the fault of a kind in the line of a number
abbrev pub fault : ℕ → Kind → FormatFault
fault line kind = record { line = line; kind = kind_number kind }

-- what a text or a part of it means, or its first fault
abbrev pub Reading : Type 0 → Type 0
Reading A = Result A FormatFault

-- read on with what was read, unless there was a fault
infixl 10 ◌>>=◌
abbrev pub ◌>>=◌ : {A B : Type 0} → Reading A → (A → Reading B) → Reading B
(Ok x) >>= f = f x
(Err e) >>= f = Err e

-- m items after those before, each read in view of the ones before it
unfoldable pub series : {A S : Type 0} → ℕ → (List A → S → Reading (A × S)) → List A → S → Reading (List A × S)
series zero read before s = Ok (before, s)
series (suc m) read before s = do
  x ← read before s
  series m read (before ++ x.0 ∷ []) x.1

-- the fault is that of the reading; want of memory may come at any time
abbrev pub Fails : {Y : Type 0} → TextFault → Reading Y → Type 0
Fails OutOfMemory read = Unit {0}
Fails (Format f) read = read ≡ Err f

-- the answer, seen by view, is what the reading gives
abbrev pub Gives : {X Y : Type 0} → (X → Y) → Result X TextFault → Reading Y → Type 0
Gives view (Ok x) read = read ≡ Ok (view x)
Gives view (Err e) read = Fails e read
