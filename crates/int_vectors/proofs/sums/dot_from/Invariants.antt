use Rattle.std.proofs.Common.{◌≡◌, ◌↔◌, drop, ◌+ℤ◌}
use Rattle.wide_int.specs.Whole.{FitsWhole}
use Rattle.int_vectors.specs.Vectors.{dot}
use Rattle.int_vectors.specs.Fits.{FitsDot}
use Rattle.int_vectors.proofs.sums.dot_from.Given as goal

abbrev pub invariant-loop-i : goal.invariant-loop-i
invariant-loop-i l = record {
  fits : FitsWhole l.total;
  value : l.total +ℤ dot (drop l.i l.a) (drop l.i l.b) ≡ l.fn.start +ℤ dot l.a l.b;
  rest : FitsDot l.fn.start l.a l.b ↔ FitsDot l.total (drop l.i l.a) (drop l.i l.b);
}
