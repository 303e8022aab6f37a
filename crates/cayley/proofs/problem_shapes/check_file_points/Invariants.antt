use Rattle.std.proofs.Common.{ℕ, ◌≤◌, map}
use Rattle.cayley.specs.Stored.{held, point}
use Rattle.cayley.specs.Shapes.{IsFaulty}
use Rattle.cayley.specs.declared.points.Point.{Point}
use Rattle.cayley.proofs.Refusals.Repeats.{Keeps}
use Rattle.cayley.proofs.problem_shapes.check_file_points.Given as goal

abbrev pub invariant-loop-k : goal.invariant-loop-k
invariant-loop-k l = record {
  sound : (p : ℕ) → p ≤ l.k → ¬ (IsFaulty (map (λ (x : Point). held (point x)) l.points) p);
  seen : Keeps l.seen (map (λ (x : Point). x.coords) l.points) l.k;
}
