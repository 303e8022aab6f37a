use Rattle.std.proofs.Common.{ℕ, ◌≤◌, map}
use Rattle.cayley.specs.Stored.{file_point}
use Rattle.cayley.specs.Shapes.{IsFaulty, file_support}
use Rattle.cayley.proofs.shapes.check_points.Given as goal

abbrev pub invariant-loop-k : goal.invariant-loop-k
invariant-loop-k l = (j q : ℕ) → 1 ≤ j → j ≤ l.k → ¬ (IsFaulty (file_support (map (λ s. map file_point s.items) l.supports) j) q)
