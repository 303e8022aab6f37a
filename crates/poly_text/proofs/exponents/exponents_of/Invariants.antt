use Rattle.std.proofs.Common.{◌≡◌}
use Rattle.poly_text.specs.Maps.{exponents_of}
use Rattle.poly_text.proofs.exponents.exponents_of.Given as goal

abbrev pub invariant-loop-j : goal.invariant-loop-j
invariant-loop-j l = l.exponents.items ≡ exponents_of l.j l.i l.k
