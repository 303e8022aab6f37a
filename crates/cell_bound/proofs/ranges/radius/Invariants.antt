use Rattle.std.proofs.Common.{ℕ, ◌≤◌}
use Rattle.cayley.specs.Problems.{point_at}
use Rattle.cayley.specs.Valid.{support_at}
use Rattle.cell_bound.specs.Ranges.{AreNear}
use Rattle.cell_bound.proofs.ranges.radius.Given as goal

abbrev pub invariant-loop-index : goal.invariant-loop-index
invariant-loop-index l = (c : ℕ) → 1 ≤ c → c ≤ l.index → AreNear l.front l.further (point_at (support_at l.problem l.i) l.position) (point_at (support_at l.problem l.i) c)
