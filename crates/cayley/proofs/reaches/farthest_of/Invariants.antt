use Rattle.std.proofs.Common.{take}
use Rattle.std.specs.List.{All}
use Rattle.int_vectors.specs.Bounds.{Within}
use Rattle.cayley.specs.declared.points.Point.{Point as StoredPoint}
use Rattle.cayley.proofs.reaches.farthest_of.Given as goal

abbrev pub invariant-loop-x : goal.invariant-loop-x
invariant-loop-x l = All (λ (x : StoredPoint). Within l.most x.coords) (take l.x-index l.points)
