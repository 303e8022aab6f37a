-- Cells that rest; no public clause cites this.
use Rattle.std.specs.Prelude.{◌≡◌, ℕ, ◌+◌, ◌<◌, pos, length, slice_index_or}
use Rattle.int_vectors.specs.Vectors.{IsZero}
use Rattle.cayley.specs.Problems.{Problem, point_at}
use Rattle.cayley.specs.Cells.{Cell}
use Rattle.cayley.specs.Valid.{support_at}
use Rattle.inner_normal.specs.declared.moving.MovingNormal.{MovingNormal}

-- the first points of the first k pairs rest
abbrev pub RestUpTo : Problem → Cell → ℕ → Type 0
RestUpTo p cell k = (j : ℕ) → j < k → (point_at (support_at p (j + 1)) (slice_index_or cell j (0, 0)).0).speed ≡ pos 0

-- the normal doesn't move, and the first point of each pair rests
abbrev pub IsResting : Problem → Cell → MovingNormal → Type 0
IsResting p cell m = IsZero m.q × RestUpTo p cell (length cell)
