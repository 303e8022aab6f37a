use Rattle.std.proofs.Common.{◌≡◌, ◌≤◌, map, take}
use Rattle.int_vectors.specs.Vectors.{at}
use Rattle.cayley.specs.Paths.{least_coordinates}
use Rattle.cayley.specs.Stored.{file_point}
use Rattle.start_system.proofs.corners.least_at.Given as goal

abbrev pub invariant-loop-c : goal.invariant-loop-c
invariant-loop-c l = record {
  some : 1 ≤ l.c;
  least : l.least ≡ at (least_coordinates (take l.c (map file_point l.points))) l.k;
}
