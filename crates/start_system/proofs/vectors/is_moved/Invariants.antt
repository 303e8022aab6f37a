use Rattle.std.proofs.Common.{◌≡◌, ◌<◌, ℕ}
use Rattle.int_vectors.specs.Vectors.{at, add, at_place}
use Rattle.start_system.proofs.vectors.is_moved.Given as goal

abbrev pub invariant-loop-j : goal.invariant-loop-j
invariant-loop-j l = (i : ℕ) → i < l.j → at l.x i ≡ at (add l.m (at_place l.k l.d)) i
