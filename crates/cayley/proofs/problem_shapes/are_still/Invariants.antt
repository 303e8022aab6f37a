use Rattle.std.proofs.Common.{◌≡◌, ℕ, ◌<◌, take}
use Rattle.std.specs.Prelude.{pos, slice_index_or}
use Rattle.std.specs.List.{All}
use Rattle.cayley.specs.declared.points.Point.{Point}
use Rattle.cayley.specs.declared.points.Support.{Support}
use Rattle.cayley.proofs.problem_shapes.are_still.Given as goal

abbrev pub invariant-loop-s : goal.invariant-loop-s
invariant-loop-s l = (k : ℕ) (d : Support) → k < l.s-index → All (λ (x : Point). x.speed ≡ pos 0) (take (slice_index_or l.supports k d).file (slice_index_or l.supports k d).points.items)
