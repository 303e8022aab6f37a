use Rattle.std.proofs.Common.{◌≤◌, ℕ, take}
use Rattle.int_vectors.specs.Bounds.{Within}
use Rattle.int_vectors.proofs.bounds.greatest.Given as goal

abbrev pub invariant-loop-x : goal.invariant-loop-x
invariant-loop-x l = record {
  bound : Within l.most (take l.x-index l.a);
  least : (v : ℕ) → Within v (take l.x-index l.a) → l.most ≤ v;
}
