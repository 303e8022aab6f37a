-- What the calls answer, beside what the elimination of the rows answers.
use Rattle.std.specs.Prelude.{◌≡◌, ℕ, suc, List, ℤ, Result, Ok, Err}
use Rattle.reduced_rows.specs.declared.faults.ReduceFault.{ReduceFault}
use Rattle.reduced_rows.specs.declared.faults.ReduceFault.TheVariants.{Overflow, Dependent, OutOfMemory}
use Rattle.reduced_rows.specs.Steps.{steps, FitsSteps}
use Rattle.table_update.specs.States.{Split, Elimination}

-- the reduced rows of the table, or its refusal
abbrev pub reduced_of : Result Elimination ReduceFault → Result (List (List ℤ)) ReduceFault
reduced_of (Ok table) = Ok table.reduced
reduced_of (Err fault) = Err fault

-- of m + 1 steps from column k on, the first of which isn't made: a number of them doesn't fit, or they end with the kernel
abbrev pub IsStepFault : ℕ → ℕ → Split → ReduceFault → Type 0
IsStepFault m k s Overflow = ¬ (FitsSteps (suc m) k s.done s.rest)
IsStepFault m k s (Dependent kernel) = FitsSteps (suc m) k s.done s.rest × (steps (suc m) k s.done s.rest ≡ Err kernel)
IsStepFault m k s OutOfMemory = Unit {0}
