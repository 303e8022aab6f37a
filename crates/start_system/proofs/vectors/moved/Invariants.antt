use Rattle.std.proofs.Common.{◌≡◌, take}
use Rattle.int_vectors.specs.Vectors.{add, at_place}
use Rattle.start_system.proofs.vectors.moved.Given as goal

abbrev pub invariant-loop-j : goal.invariant-loop-j
invariant-loop-j l = l.entries.items ≡ take l.j (add l.m (at_place l.k l.d))
