use Rattle.std.proofs.Common.{◌≡◌, ◌<◌, ◌^◌, take}
use Rattle.int_vectors.specs.Bounds.{size}
use Rattle.int_vectors.proofs.bounds.row_size.Given as goal

abbrev pub invariant-loop-x : goal.invariant-loop-x
invariant-loop-x l = record {
  sum : l.total ≡ size (take l.x-index l.a);
  below : l.total < 2 ^ 128;
}
