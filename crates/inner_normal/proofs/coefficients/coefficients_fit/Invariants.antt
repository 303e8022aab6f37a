use Rattle.std.proofs.Common.{◌↔◌, drop}
use Rattle.int_vectors.specs.Vectors.{sub}
use Rattle.inner_normal.proofs.CoefficientSteps.{FitsFrom}
use Rattle.inner_normal.proofs.coefficients.coefficients_fit.Given as goal

abbrev pub invariant-loop-i : goal.invariant-loop-i
invariant-loop-i l = FitsFrom 0 l.fn.place l.fn.den (sub l.fn.c l.fn.a) l.fn.columns ↔ FitsFrom l.i l.fn.place l.fn.den (sub l.fn.c l.fn.a) (drop l.i l.fn.columns)
