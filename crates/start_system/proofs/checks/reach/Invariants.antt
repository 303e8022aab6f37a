use Rattle.std.proofs.Common.{◌≡◌, take, ◌≤ℤ◌}
use Rattle.std.proofs.Math.IntN.{pos}
use Rattle.cayley.specs.Paths.{simplex_edge}
use Rattle.start_system.specs.Corners.{points_at}
use Rattle.start_system.proofs.checks.reach.Given as goal

abbrev pub invariant-loop-c : goal.invariant-loop-c
invariant-loop-c l = record {
  value : l.most ≡ simplex_edge l.m (take l.c (points_at l.problem l.i));
  least : pos 1 ≤ℤ l.most;
  greatest : l.most ≤ℤ pos 32000000;
}
