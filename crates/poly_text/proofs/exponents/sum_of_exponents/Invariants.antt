use Rattle.std.proofs.Common.{◌≡◌, []}
use Rattle.poly_text.specs.Maps.{sum_of_exponents}
use Rattle.poly_text.proofs.ExponentLists.{extended, rest_of}
use Rattle.poly_text.proofs.exponents.sum_of_exponents.Given as goal

abbrev pub invariant-loop-i : goal.invariant-loop-i
invariant-loop-i l = extended l.sums.items (rest_of l.xs l.ys l.i) ≡ extended [] (sum_of_exponents l.xs l.ys)
