use Rattle.std.proofs.Common.{◌≡◌, ◌++◌, map, take}
use Rattle.cayley.specs.Paths.{direction_corners}
use Rattle.cayley.specs.Stored.{point}
use Rattle.start_system.proofs.corners.push_directions.Given as goal

abbrev pub invariant-loop-k : goal.invariant-loop-k
invariant-loop-k l = map point l.made.items ≡ map point l.fn.made.items ++ take l.k (direction_corners l.m l.d l.own 0 l.starts)
