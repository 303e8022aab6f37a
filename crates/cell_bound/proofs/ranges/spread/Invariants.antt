use Rattle.std.proofs.Common.{◌≡◌, take}
use Rattle.int_vectors.specs.Bounds.{size}
use Rattle.int_vectors.specs.Vectors.{sub}
use Rattle.cell_bound.proofs.ranges.spread.Given as goal

abbrev pub invariant-loop-k : goal.invariant-loop-k
invariant-loop-k l = l.total ≡ size (sub (take l.k l.c) (take l.k l.a))
