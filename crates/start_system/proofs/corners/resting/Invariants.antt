use Rattle.std.proofs.Common.{◌≡◌, map, take}
use Rattle.cayley.specs.Files.{resting}
use Rattle.cayley.specs.Stored.{file_point, point}
use Rattle.start_system.proofs.corners.resting.Given as goal

abbrev pub invariant-loop-x : goal.invariant-loop-x
invariant-loop-x l = map point l.made.items ≡ map resting (map file_point (take l.x-index l.points))
