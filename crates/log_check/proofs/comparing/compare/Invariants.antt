use Rattle.std.proofs.Common.{◌≡◌, ◌++◌, take}
use Rattle.log_check.specs.Verdicts.{listed_of}
use Rattle.log_check.proofs.comparing.compare.Given as goal

abbrev pub invariant-loop-listed : goal.invariant-loop-listed
invariant-loop-listed l = l.expected ≡ listed_of (take l.listed-index l.log.part.cells.items) ++ l.left
