use Rattle.std.proofs.Common.{ℕ, ◌≤◌, map}
use Rattle.cayley.specs.Shapes.{IsOutsideHeight}
use Rattle.cayley.proofs.second_heights.outside.Given as goal

abbrev pub invariant-loop-k : goal.invariant-loop-k
invariant-loop-k l = (j q : ℕ) → 1 ≤ j → j ≤ l.k → ¬ (IsOutsideHeight (map (λ s. s.items) l.second) j q)
