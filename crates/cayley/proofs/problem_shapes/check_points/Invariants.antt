use Rattle.std.proofs.Common.{ℕ, ◌≤◌}
use Rattle.cayley.specs.Stored.{unranked_of}
use Rattle.cayley.specs.Shapes.{IsFaultyOf}
use Rattle.cayley.specs.Valid.{support_at, file_count_at}
use Rattle.cayley.proofs.problem_shapes.check_points.Given as goal

abbrev pub invariant-loop-k : goal.invariant-loop-k
invariant-loop-k l = (j q : ℕ) → 1 ≤ j → j ≤ l.k → ¬ (IsFaultyOf (file_count_at (unranked_of l.dim l.supports) j) (support_at (unranked_of l.dim l.supports) j) q)
