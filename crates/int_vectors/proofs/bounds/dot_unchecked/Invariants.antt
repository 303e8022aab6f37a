use Rattle.std.proofs.Common.{◌≡◌, drop, ◌+ℤ◌, ◌^◌}
use Rattle.int_vectors.specs.Vectors.{dot}
use Rattle.int_vectors.specs.Bounds.{Room}
use Rattle.int_vectors.proofs.bounds.dot_unchecked.Given as goal

abbrev pub invariant-loop-i : goal.invariant-loop-i
invariant-loop-i l = record {
  value : l.total +ℤ dot (drop l.i l.a) (drop l.i l.b) ≡ l.fn.start +ℤ dot l.a l.b;
  room : Room (2 ^ 127) l.total (drop l.i l.a) (drop l.i l.b);
}
