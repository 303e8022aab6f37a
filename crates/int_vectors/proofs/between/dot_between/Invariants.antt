use Rattle.std.proofs.Common.{◌≡◌, ◌↔◌, drop, ◌+ℤ◌}
use Rattle.wide_int.specs.Whole.{FitsWhole}
use Rattle.int_vectors.specs.Vectors.{dot, sub}
use Rattle.int_vectors.specs.Fits.{FitsDot}
use Rattle.int_vectors.proofs.between.dot_between.Given as goal

abbrev pub invariant-loop-i : goal.invariant-loop-i
invariant-loop-i l = record {
  fits : FitsWhole l.total;
  value : l.total +ℤ dot (drop l.i (sub l.c l.a)) (drop l.i l.v) ≡ l.fn.start +ℤ dot (sub l.c l.a) l.v;
  rest : FitsDot l.fn.start (sub l.c l.a) l.v ↔ FitsDot l.total (drop l.i (sub l.c l.a)) (drop l.i l.v);
}
