use Rattle.std.proofs.Common.{◌≡◌, ◌<◌, ◌≤◌, ℕ, [], length, slice_index_or}
use Rattle.cone_walls.proofs.kept.first_other.Given as goal

abbrev pub invariant-loop-i : goal.invariant-loop-i
invariant-loop-i l = (j : ℕ) → l.from ≤ j → j < l.i → slice_index_or l.kept j [] ≡ slice_index_or l.rows j []
