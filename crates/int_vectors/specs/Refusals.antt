-- What a refusal of a vector says.
use Rattle.std.specs.Prelude.{List, ℤ}
use Rattle.int_vectors.specs.declared.faults.IntVecFault.{IntVecFault}
use Rattle.int_vectors.specs.declared.faults.IntVecFault.TheVariants.{Unfit, OutOfMemory}
use Rattle.int_vectors.specs.declared.faults.SubFault.{SubFault}
use Rattle.int_vectors.specs.declared.faults.SubFault.TheVariants as sub_fault
use Rattle.int_vectors.specs.Fits.{AllFit}
use Rattle.int_vectors.specs.Vectors.{sub}

-- Unfit: an entry doesn't fit
abbrev pub IsUnfit : List ℤ → IntVecFault → Type 0
IsUnfit entries Unfit = ¬ (AllFit entries)
IsUnfit entries OutOfMemory = Unit {0}

-- Overflow: a difference doesn't fit
abbrev pub IsSubFault : List ℤ → List ℤ → SubFault → Type 0
IsSubFault xs ys sub_fault.Overflow = ¬ (AllFit (sub xs ys))
IsSubFault xs ys sub_fault.OutOfMemory = Unit {0}
