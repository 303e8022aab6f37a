use Rattle.std.proofs.Common.{ℕ, ◌≤◌, map}
use Rattle.cayley.specs.Stored.{file_point}
use Rattle.cayley.specs.Shapes.{IsFaulty}
use Rattle.cayley.specs.declared.points.FilePoint.{FilePoint}
use Rattle.cayley.proofs.Refusals.Repeats.{Keeps}
use Rattle.cayley.proofs.shapes.check_support.Given as goal

abbrev pub invariant-loop-k : goal.invariant-loop-k
invariant-loop-k l = record {
  sound : (p : ℕ) → p ≤ l.k → ¬ (IsFaulty (map file_point l.points) p);
  seen : Keeps l.seen (map (λ (x : FilePoint). x.coords) l.points) l.k;
}
