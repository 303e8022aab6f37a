use Rattle.std.proofs.Common.{ℕ, ◌<◌, [], map}
use Rattle.std.specs.Prelude.{slice_index_or}
use Rattle.int_vectors.specs.Vectors.{Each}
use Rattle.cayley.specs.Valid.{IsStart}
use Rattle.cayley.proofs.shapes.first_faulty_start.Given as goal

abbrev pub invariant-loop-k : goal.invariant-loop-k
invariant-loop-k l = (j : ℕ) → j < l.k → Each (slice_index_or (map (λ s. s.items) l.starts) j []) IsStart
