-- What the refusals for a cell say. Its rows are those of its pairs, and n of their columns hold the differences of coordinates.
use Rattle.std.specs.Prelude.{◌≡◌, ◌↔◌, ℕ, List, ℤ, Result, Ok, Err}
use Rattle.reduced_rows.specs.declared.faults.CellFault.{CellFault}
use Rattle.reduced_rows.specs.declared.faults.CellFault.TheVariants.{Overflow, Dependent, OutOfMemory}
use Rattle.reduced_rows.specs.Steps.{elimination, FitsElimination}
use Rattle.reduced_rows.specs.Spans.{IsKernelOf}

-- the part of a working that follows the elimination fits, where the rows are independent
abbrev pub FitsBeyond : ℕ → List (List ℤ) → (List (List ℤ) → Type 0) → Type 0
FitsBeyond n rows rest = FitsElimination n rows × ((made : List (List ℤ)) → elimination n rows ≡ Ok made → rest made)

-- the rows are the answer of the elimination of the given rows
abbrev pub IsEliminated : ℕ → List (List ℤ) → List (List ℤ) → Type 0
IsEliminated n rows made = FitsElimination n rows × (elimination n rows ≡ Ok made)

-- Overflow: a number that is named doesn't fit; Dependent: the elimination fits and ends with this kernel of the rows
abbrev pub IsCellFault : Type 0 → ℕ → List (List ℤ) → CellFault → Type 0
IsCellFault fits n rows Overflow = ¬ fits
IsCellFault fits n rows (Dependent kernel) = FitsElimination n rows × (elimination n rows ≡ Err kernel) × IsKernelOf n rows kernel
IsCellFault fits n rows OutOfMemory = Unit {0}

-- Dependent: with a kernel of which P holds
abbrev pub OnDependent : (List ℤ → Type 0) → CellFault → Type 0
OnDependent P Overflow = Unit {0}
OnDependent P (Dependent kernel) = P kernel
OnDependent P OutOfMemory = Unit {0}

-- the answer isn't want of memory
abbrev pub HasAnswer : {A : Type 0} → Result A CellFault → Type 0
HasAnswer (Ok a) = Unit {0}
HasAnswer (Err Overflow) = Unit {0}
HasAnswer (Err (Dependent kernel)) = Unit {0}
HasAnswer (Err OutOfMemory) = ⊥

abbrev pub IsCellOverflow : {A : Type 0} → Result A CellFault → Type 0
IsCellOverflow (Ok a) = ⊥
IsCellOverflow (Err Overflow) = Unit {0}
IsCellOverflow (Err (Dependent kernel)) = ⊥
IsCellOverflow (Err OutOfMemory) = ⊥

abbrev pub IsCellDependent : {A : Type 0} → Result A CellFault → Type 0
IsCellDependent (Ok a) = ⊥
IsCellDependent (Err Overflow) = ⊥
IsCellDependent (Err (Dependent kernel)) = Unit {0}
IsCellDependent (Err OutOfMemory) = ⊥

-- Overflow exactly where a number that is named doesn't fit
abbrev pub CellOverflowExactly : {A : Type 0} → Type 0 → Result A CellFault → Type 0
CellOverflowExactly fits r = IsCellOverflow r ↔ ¬ fits
