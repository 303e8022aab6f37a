-- The faults of a system's text.
use Rattle.std.specs.Prelude.{ℕ}
use Rattle.support_text.specs.declared.fault.FormatFault.{FormatFault}
use Rattle.poly_text.specs.declared.fault.Kind.{Kind}
use Rattle.poly_text.specs.declared.fault.Kind.TheVariants.{System, Grammar, Range, Bound, Empty, Missing, Extra}

-- the numbers of the kinds
abbrev pub kind_number : Kind → ℕ
kind_number System = 21
kind_number Grammar = 22
kind_number Range = 23
kind_number Bound = 24
kind_number Empty = 25
kind_number Missing = 26
kind_number Extra = 27

-- the fault of a kind in the line of a number
abbrev pub fault : ℕ → Kind → FormatFault
fault line kind = record { line = line; kind = kind_number kind }
