-- The files that `make` and `poly` write.
use Rattle.std.specs.Prelude.{ℕ, List, ◌+◌, ◌^◌, ◌≤◌}
use Rattle.cayley.specs.Files.{File}
use Rattle.support_text.specs.Writing.{problem_text}
use Rattle.poly_text.specs.SystemText.{PointSystem}
use Rattle.family_gen.specs.Lifts.{lift_file}
use Rattle.family_gen.specs.Cyclic.{cyclic_file}
use Rattle.family_gen.specs.Scatter.{scatter_file}
use Rattle.mixedcells.specs.declared.words.meaning.Family.{Family}
use Rattle.mixedcells.specs.declared.words.meaning.Family.TheVariants.{Cyclic, Scatter}
use Rattle.mixedcells.specs.declared.words.Command.{Command}
use Rattle.mixedcells.specs.declared.words.Command.TheVariants as verb

-- the file of a family behind a seed
abbrev pub family_file : Family → ℕ → File
family_file (Cyclic n) seed = cyclic_file n seed
family_file (Scatter n m side) seed = scatter_file n m side seed

-- the canonical text of the file of a system's supports with the heights behind a seed
abbrev pub lifted_text : ℕ → PointSystem → List ℕ
lifted_text seed system = problem_text (lift_file system.dimension system.supports seed)

-- the numbers of a family are in their limits, and there is room for the points of each support
abbrev pub IsInLimits : Family → Type 0
IsInLimits (Cyclic n) = (2 ≤ n) × (n ≤ 16)
IsInLimits (Scatter n m side) = ((1 ≤ n) × (n ≤ 16)) × ((1 ≤ m) × (m ≤ 1000)) × (side ≤ 1000000) × (m ≤ (side + 1) ^ n)

-- the same of a command
abbrev pub IsFit : Command → Type 0
IsFit verb.Plain = Unit {0}
IsFit (verb.List searchers) = Unit {0}
IsFit (verb.Sum searchers) = Unit {0}
IsFit verb.Check = Unit {0}
IsFit verb.Generic = Unit {0}
IsFit verb.Move = Unit {0}
IsFit verb.Trace = Unit {0}
IsFit verb.Verify = Unit {0}
IsFit verb.Powers = Unit {0}
IsFit (verb.Poly seed) = Unit {0}
IsFit (verb.Make family seed) = IsInLimits family
