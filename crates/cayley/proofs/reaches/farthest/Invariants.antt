use Rattle.std.proofs.Common.{take}
use Rattle.std.specs.List.{All}
use Rattle.cayley.specs.Reaches.{IsStoredReach}
use Rattle.cayley.proofs.reaches.farthest.Given as goal

abbrev pub invariant-loop-s : goal.invariant-loop-s
invariant-loop-s l = All (IsStoredReach l.most) (take l.s-index l.supports)
