use Rattle.std.proofs.Common.{◌≡◌, ◌≤◌, take}
use Rattle.int_vectors.specs.Vectors.{at}
use Rattle.cayley.specs.Paths.{least_coordinates}
use Rattle.start_system.specs.Corners.{points_at}
use Rattle.start_system.proofs.checks.least_at.Given as goal

abbrev pub invariant-loop-c : goal.invariant-loop-c
invariant-loop-c l = record {
  some : 1 ≤ l.c;
  least : l.least ≡ at (least_coordinates (take l.c (points_at l.problem l.i))) l.k;
}
