use Rattle.std.proofs.Common.{refl}
use Rattle.std.proofs.lemmas.Nat.Gcd.{dvd_of_mod-eq-zero}
use Rattle.wide_int.proofs.tests.divisors_and_multiples.Goals as goal

pub exact_quotient-requires-clause-divides : goal.exact_quotient-requires-clause-divides
exact_quotient-requires-clause-divides g c = dvd_of_mod-eq-zero 6 refl
