use Rattle.std.proofs.Common.{◌≡◌, drop, ◌+ℤ◌, ◌^◌}
use Rattle.int_vectors.specs.Vectors.{dot, sub}
use Rattle.int_vectors.specs.Bounds.{Room}
use Rattle.int_vectors.proofs.narrow.narrow_dots_between.Given as goal

abbrev pub invariant-loop-i : goal.invariant-loop-i
invariant-loop-i l = record {
  p : l.alpha +ℤ dot (drop l.i (sub l.c l.a)) (drop l.i l.p) ≡ l.fn.start +ℤ dot (sub l.c l.a) l.p;
  q : l.beta +ℤ dot (drop l.i (sub l.c l.a)) (drop l.i l.q) ≡ l.fn.other +ℤ dot (sub l.c l.a) l.q;
  p_room : Room (2 ^ 62) l.alpha (drop l.i (sub l.c l.a)) (drop l.i l.p);
  q_room : Room (2 ^ 62) l.beta (drop l.i (sub l.c l.a)) (drop l.i l.q);
}
