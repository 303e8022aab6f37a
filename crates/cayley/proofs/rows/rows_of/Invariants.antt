use Rattle.std.proofs.Common.{◌≡◌, map, take}
use Rattle.cayley.specs.declared.points.Support.{Support}
use Rattle.cayley.specs.Rows.{edge_rows_from}
use Rattle.cayley.specs.Stored.{point}
use Rattle.cayley.proofs.rows.rows_of.Given as goal

abbrev pub invariant-loop-i : goal.invariant-loop-i
invariant-loop-i l = l.rows.items ≡ take l.i (edge_rows_from l.dim 0 (map (λ (s : Support). map point s.points.items) l.supports) l.pairs)
