use Rattle.std.proofs.Common.{◌≡◌, ℕ, ◌<◌, ◌≤◌, length}
use Rattle.std.specs.Prelude.{slice_index_or}
use Rattle.cayley.specs.declared.points.Support.{Support}
use Rattle.cayley.proofs.positions.has_positions.Given as goal

abbrev pub invariant-loop-i : goal.invariant-loop-i
invariant-loop-i l = (length l.supports ≡ length l.pairs)
    × ((k : ℕ) (d : Support) (e : ℕ × ℕ) → k < l.i → (slice_index_or l.pairs k e).1 ≤ length (slice_index_or l.supports k d).points.items)
