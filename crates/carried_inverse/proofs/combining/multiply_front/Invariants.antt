use Rattle.std.proofs.Common.{◌≡◌, ◌≤◌, take, drop, map, ◌++◌}
use Rattle.int_vectors.specs.Vectors.{scale}
use Rattle.carried_inverse.proofs.combining.multiply_front.Given as goal

abbrev pub invariant-loop-k : goal.invariant-loop-k
invariant-loop-k l = record {
  made : l.made.items ≡ map (scale l.factor) (take l.k l.fn.made.items) ++ drop l.k l.fn.made.items;
  below : l.k ≤ l.count;
}
