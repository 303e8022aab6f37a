use Rattle.std.proofs.Common.{◌≡◌, ◌+◌, length, unsigned_abs}
use Rattle.inner_normal.specs.Inverses.{scaled_columns}
use Rattle.carried_inverse.proofs.beginning.short_columns.Given as goal

abbrev pub invariant-loop-i : goal.invariant-loop-i
invariant-loop-i l = l.made.items ≡ scaled_columns l.i (length l.fn.reduced + 2) (unsigned_abs l.fn.den) l.fn.reduced
