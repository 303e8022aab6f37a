use Rattle.std.proofs.Common.{◌≡◌, map, take}
use Rattle.cayley.specs.Files.{moved_points}
use Rattle.cayley.specs.Stored.{file_point, point}
use Rattle.cayley.proofs.second_heights.moved_points.Given as goal

abbrev pub invariant-loop-k : goal.invariant-loop-k
invariant-loop-k l = map point l.made.items ≡ moved_points (map file_point (take l.k l.points)) (take l.k l.second)
