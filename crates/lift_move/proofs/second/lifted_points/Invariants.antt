use Rattle.std.proofs.Common.{◌≡◌, map, take}
use Rattle.cayley.specs.Stored.{file_point}
use Rattle.lift_move.specs.Segments.{lifted_points}
use Rattle.lift_move.proofs.second.lifted_points.Given as goal

abbrev pub invariant-loop-k : goal.invariant-loop-k
invariant-loop-k l = map file_point l.made.items ≡ lifted_points (map file_point (take l.k l.points)) (take l.k l.heights)
