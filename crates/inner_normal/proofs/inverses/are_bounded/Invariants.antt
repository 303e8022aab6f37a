use Rattle.std.proofs.Common.{drop, ◌^◌}
use Rattle.int_vectors.specs.Bounds.{SumBelow}
use Rattle.int_vectors.specs.Vectors.{Each}
use Rattle.inner_normal.proofs.inverses.are_bounded.Given as goal

abbrev pub invariant-loop-column : goal.invariant-loop-column
invariant-loop-column l = Each (drop l.column-index l.fn.columns) (SumBelow (2 ^ 127) 66000000 l.fn.den) → Each l.fn.columns (SumBelow (2 ^ 127) 66000000 l.fn.den)
