use Rattle.std.proofs.Common.{◌≡◌, ◌↔◌, ℕ, ◌≤◌, ◌-◌}
use Rattle.reduced_rows.specs.Steps.{steps, FitsSteps, elimination, FitsElimination}
use Rattle.reduced_rows.proofs.Shape.{IsShaped}
use Rattle.reduced_rows.proofs.elimination.eliminate_rows.Given as goal

abbrev pub invariant-loop-k : goal.invariant-loop-k
invariant-loop-k l = record {
  same : steps (l.columns - l.k) l.k l.done.items l.rest.items ≡ elimination l.columns l.fn.rows.items;
  fits : FitsSteps (l.columns - l.k) l.k l.done.items l.rest.items ↔ FitsElimination l.columns l.fn.rows.items;
  shape : (n : ℕ) × (l.columns ≤ n) × IsShaped n l.k l.done.items l.rest.items;
}
