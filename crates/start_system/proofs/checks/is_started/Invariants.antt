use Rattle.std.proofs.Common.{◌<◌, suc, ℕ}
use Rattle.cayley.specs.Valid.{file_count_at, support_at}
use Rattle.start_system.specs.Corners.{HasPathCorners}
use Rattle.start_system.proofs.checks.is_started.Given as goal

abbrev pub invariant-loop-place : goal.invariant-loop-place
invariant-loop-place l = (j : ℕ) → j < l.place → HasPathCorners l.problem.dimension (suc j) (file_count_at l.problem (suc j)) (support_at l.problem (suc j))
