use Rattle.std.proofs.Common.{◌≡◌, take}
use Rattle.int_vectors.proofs.narrow.narrow_copy.Given as goal

abbrev pub invariant-loop-x : goal.invariant-loop-x
invariant-loop-x l = l.made.items ≡ take l.x-index l.v
