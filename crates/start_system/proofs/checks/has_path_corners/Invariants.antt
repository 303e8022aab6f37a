use Rattle.std.proofs.Common.{◌<◌, ◌-◌, ℕ}
use Rattle.start_system.specs.Corners.{direction_corner_at, IsDirectionOf}
use Rattle.start_system.proofs.checks.has_path_corners.Given as goal

abbrev pub invariant-loop-k : goal.invariant-loop-k
invariant-loop-k l = (j : ℕ) → j < l.k → IsDirectionOf l.corner.coords l.d (l.i - 1) j (direction_corner_at l.problem l.i j)
