use Rattle.std.proofs.Common.{ℕ, ◌<◌, map}
use Rattle.std.specs.Prelude.{slice_index_or}
use Rattle.cayley.specs.Problems.{origin}
use Rattle.cayley.specs.Stored.{point}
use Rattle.cayley.specs.Valid.{IsWithinCorners}
use Rattle.cayley.proofs.problem_shapes.first_faulty_corner.Given as goal

abbrev pub invariant-loop-k : goal.invariant-loop-k
invariant-loop-k l = (j : ℕ) → j < l.k → IsWithinCorners (slice_index_or (map point l.corners) j origin)
