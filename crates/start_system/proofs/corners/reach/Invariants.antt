use Rattle.std.proofs.Common.{◌≡◌, map, take, ◌≤ℤ◌}
use Rattle.std.proofs.Math.IntN.{pos}
use Rattle.cayley.specs.Stored.{file_point}
use Rattle.cayley.specs.Paths.{simplex_edge}
use Rattle.start_system.proofs.corners.reach.Given as goal

abbrev pub invariant-loop-x : goal.invariant-loop-x
invariant-loop-x l = record {
  value : l.most ≡ simplex_edge l.m (take l.x-index (map file_point l.points));
  least : pos 1 ≤ℤ l.most;
  greatest : l.most ≤ℤ pos 32000000;
}
