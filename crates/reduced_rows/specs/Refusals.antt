-- What a refusal of the elimination says.
use Rattle.std.specs.Prelude.{◌≡◌, ◌↔◌, ℕ, List, ℤ, Result, Ok, Err}
use Rattle.reduced_rows.specs.declared.faults.ReduceFault.{ReduceFault}
use Rattle.reduced_rows.specs.declared.faults.ReduceFault.TheVariants.{Overflow, Dependent, OutOfMemory}
use Rattle.reduced_rows.specs.declared.faults.FromFault.{FromFault}
use Rattle.reduced_rows.specs.declared.faults.FromFault.TheVariants as from_fault
use Rattle.int_vectors.specs.Vectors.{Independent}
use Rattle.reduced_rows.specs.Denominators.{FitsKernel, kernel_of}
use Rattle.reduced_rows.specs.Steps.{FitsElimination, elimination}
use Rattle.reduced_rows.specs.Spans.{IsKernelOf}

-- of the kernel's call: a number of it doesn't fit, or the kernel
abbrev pub IsKernelFault : ℕ → ℕ → List (List ℤ) → ReduceFault → Type 0
IsKernelFault k more done Overflow = ¬ (FitsKernel k done)
IsKernelFault k more done (Dependent kernel) = FitsKernel k done × (kernel ≡ kernel_of k more done)
IsKernelFault k more done OutOfMemory = Unit {0}

-- Overflow: a number of the working doesn't fit; Dependent: each fits, and the working ends with the kernel
abbrev pub IsFault : ℕ → List (List ℤ) → ReduceFault → Type 0
IsFault n rows Overflow = ¬ (FitsElimination n rows)
IsFault n rows (Dependent kernel) = FitsElimination n rows × (elimination n rows ≡ Err kernel)
IsFault n rows OutOfMemory = Unit {0}

-- Dependent: the vector isn't zero, and it is orthogonal to each row
abbrev pub HasKernel : ℕ → List (List ℤ) → ReduceFault → Type 0
HasKernel n rows Overflow = Unit {0}
HasKernel n rows (Dependent kernel) = IsKernelOf n rows kernel
HasKernel n rows OutOfMemory = Unit {0}

-- the answer isn't want of memory
abbrev pub HadMemory : Result (List (List ℤ)) ReduceFault → Type 0
HadMemory (Ok made) = Unit {0}
HadMemory (Err Overflow) = Unit {0}
HadMemory (Err (Dependent kernel)) = Unit {0}
HadMemory (Err OutOfMemory) = ⊥

-- the answer is Overflow
abbrev pub IsOverflow : Result (List (List ℤ)) ReduceFault → Type 0
IsOverflow (Ok made) = ⊥
IsOverflow (Err Overflow) = Unit {0}
IsOverflow (Err (Dependent kernel)) = ⊥
IsOverflow (Err OutOfMemory) = ⊥

-- the answer is Dependent
abbrev pub IsDependent : Result (List (List ℤ)) ReduceFault → Type 0
IsDependent (Ok made) = ⊥
IsDependent (Err Overflow) = ⊥
IsDependent (Err (Dependent kernel)) = Unit {0}
IsDependent (Err OutOfMemory) = ⊥

-- Overflow exactly where a number of the working doesn't fit
abbrev pub OverflowExactly : ℕ → List (List ℤ) → Result (List (List ℤ)) ReduceFault → Type 0
OverflowExactly n rows r = IsOverflow r ↔ ¬ (FitsElimination n rows)

-- Dependent exactly where each fits and the rows cut to n columns are dependent
abbrev pub DependentExactly : ℕ → List (List ℤ) → Result (List (List ℤ)) ReduceFault → Type 0
DependentExactly n rows r = IsDependent r ↔ (FitsElimination n rows × ¬ (Independent n rows))

-- Overflow: not all that is named fits
abbrev pub IsFromFault : Type 0 → FromFault → Type 0
IsFromFault fits from_fault.Overflow = ¬ fits
IsFromFault fits from_fault.OutOfMemory = Unit {0}
