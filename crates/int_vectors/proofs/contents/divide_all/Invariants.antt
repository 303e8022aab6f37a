use Rattle.std.proofs.Common.{◌≡◌, take, drop}
use Rattle.int_vectors.specs.Vectors.{scale}
use Rattle.int_vectors.proofs.contents.divide_all.Given as goal

abbrev pub invariant-loop-x : goal.invariant-loop-x
invariant-loop-x l = record {
  done : take l.x-index l.initial.entries ≡ scale l.g (take l.x-index l.entries);
  left : drop l.x-index l.initial.entries ≡ drop l.x-index l.entries;
}
