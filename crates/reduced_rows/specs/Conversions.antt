-- Which refusal of a cell comes of a refusal of its rows, and of what follows their elimination.
use Rattle.reduced_rows.specs.declared.faults.ReduceFault.{ReduceFault}
use Rattle.reduced_rows.specs.declared.faults.ReduceFault.TheVariants as reduce_fault
use Rattle.reduced_rows.specs.declared.faults.FromFault.{FromFault}
use Rattle.reduced_rows.specs.declared.faults.FromFault.TheVariants as from_fault
use Rattle.reduced_rows.specs.declared.faults.CellFault.{CellFault}
use Rattle.reduced_rows.specs.declared.faults.CellFault.TheVariants.{Overflow, Dependent, OutOfMemory}

-- the same refusal, of the cell whose rows they are
abbrev pub of_rows : ReduceFault → CellFault
of_rows reduce_fault.Overflow = Overflow
of_rows (reduce_fault.Dependent kernel) = Dependent kernel
of_rows reduce_fault.OutOfMemory = OutOfMemory

-- the same refusal, of the cell whose rows were eliminated
abbrev pub of_rest : FromFault → CellFault
of_rest from_fault.Overflow = Overflow
of_rest from_fault.OutOfMemory = OutOfMemory
