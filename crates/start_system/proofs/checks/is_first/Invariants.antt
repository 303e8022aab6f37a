use Rattle.std.proofs.Common.{◌≡◌, ◌<◌, ℕ}
use Rattle.int_vectors.specs.Vectors.{at}
use Rattle.cayley.specs.Paths.{least_coordinates}
use Rattle.start_system.specs.Corners.{points_at}
use Rattle.start_system.proofs.checks.is_first.Given as goal

abbrev pub invariant-loop-k : goal.invariant-loop-k
invariant-loop-k l = (j : ℕ) → j < l.k → at l.corner.coords j ≡ at (least_coordinates (points_at l.problem l.i)) j
