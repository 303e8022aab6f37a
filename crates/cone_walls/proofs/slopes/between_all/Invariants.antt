use Rattle.std.proofs.Common.{◌≡◌, drop, ◌+ℤ◌, ◌^◌}
use Rattle.int_vectors.specs.Vectors.{dot, sub}
use Rattle.int_vectors.specs.Bounds.{Room}
use Rattle.cone_walls.proofs.slopes.between_all.Given as goal

abbrev pub invariant-loop-i : goal.invariant-loop-i
invariant-loop-i l = record {
  value : l.total +ℤ dot (drop l.i (sub l.c l.a)) (drop l.i l.v) ≡ l.fn.start +ℤ dot (sub l.c l.a) l.v;
  room : Room (2 ^ 62) l.total (drop l.i (sub l.c l.a)) (drop l.i l.v);
}
