-- what a refusal says of more numbers
use Rattle.std.proofs.Common.{ℕ, List}
use Rattle.std.proofs.Math.IntN.{ℤ}
use Rattle.reduced_rows.specs.declared.faults.FromFault.{FromFault}
use Rattle.reduced_rows.specs.declared.faults.FromFault.TheVariants.{Overflow, OutOfMemory}
use Rattle.reduced_rows.specs.declared.faults.CellFault.{CellFault}
use Rattle.reduced_rows.specs.declared.faults.CellFault.TheVariants as cell_fault
use Rattle.reduced_rows.specs.CellRefusals.{IsCellFault}
use Rattle.reduced_rows.specs.Refusals.{IsFromFault}

pub fault_other : (A B : Type 0) (fault : FromFault) → (¬ A → ¬ B) → IsFromFault A fault → IsFromFault B fault
fault_other A B Overflow f h = f h
fault_other A B OutOfMemory f h = tt

pub cell_fault_other : (A B : Type 0) (n : ℕ) (rows : List (List ℤ)) (fault : CellFault) → (¬ A → ¬ B) → IsCellFault A n rows fault → IsCellFault B n rows fault
cell_fault_other A B n rows cell_fault.Overflow f h = f h
cell_fault_other A B n rows (cell_fault.Dependent kernel) f h = h
cell_fault_other A B n rows cell_fault.OutOfMemory f h = tt
