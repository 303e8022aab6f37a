use Rattle.std.proofs.Common.{◌≡◌, map, take}
use Rattle.cayley.specs.Paths.{least_coordinates}
use Rattle.cayley.specs.Stored.{file_point}
use Rattle.start_system.proofs.corners.least_coordinates.Given as goal

abbrev pub invariant-loop-k : goal.invariant-loop-k
invariant-loop-k l = l.made.items ≡ take l.k (least_coordinates (map file_point l.points))
