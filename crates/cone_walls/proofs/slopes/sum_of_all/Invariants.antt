use Rattle.std.proofs.Common.{◌≡◌, drop, ◌+ℤ◌, ◌^◌}
use Rattle.int_vectors.specs.Vectors.{dot}
use Rattle.int_vectors.specs.Bounds.{Room}
use Rattle.cone_walls.proofs.slopes.sum_of_all.Given as goal

abbrev pub invariant-loop-i : goal.invariant-loop-i
invariant-loop-i l = record {
  value : l.total +ℤ dot (drop l.i l.c) (drop l.i l.v) ≡ l.fn.start +ℤ dot l.c l.v;
  room : Room (2 ^ 62) l.total (drop l.i l.c) (drop l.i l.v);
}
