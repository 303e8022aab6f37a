-- The limits of the numbers that a polynomial writes.
use Rattle.std.specs.Prelude.{◌≤ℤ◌, ℕ, ℤ, pos, neg_ℤ, Option, Some, None}
use Rattle.cayley.specs.declared.limits.TheConstants.{COORDINATE}
use Rattle.poly_text.specs.declared.limits.TheConstants.{POWER}
use Rattle.poly_text.specs.Trees.{Polynomial, Term, Factor, Atom, first, more, one_factor, product, plain, power, digits, variable, enclosed, exponent}

-- a number is at most 2^127 - 1
abbrev pub IsNumber : Option ℤ → Type 0
IsNumber None = ⊥
IsNumber (Some z) = Unit {0}

-- the variable is one of x1 to xn
abbrev pub IsVariable : ℕ → Option ℤ → Type 0
IsVariable n None = ⊥
IsVariable n (Some i) = (pos 1 ≤ℤ i) × (i ≤ℤ pos n)

abbrev pub IsBetween : ℤ → ℤ → Option ℤ → Type 0
IsBetween low high None = ⊥
IsBetween low high (Some k) = (low ≤ℤ k) × (k ≤ℤ high)

-- the exponent of a variable is from -1,000,000 to 1,000,000, another one from 0 to 16
abbrev pub IsExponentOf : Atom → Option ℤ → Type 0
IsExponentOf (digits z) k = IsBetween (pos 0) (pos POWER) k
IsExponentOf (variable i) k = IsBetween (neg_ℤ (pos COORDINATE)) (pos COORDINATE) k
IsExponentOf (enclosed p) k = IsBetween (pos 0) (pos POWER) k

-- the numbers of a polynomial of n variables and of its parts are within their limits
unfoldable mutual
  pub InRange : ℕ → Polynomial → Type 0
  InRange n (first sign t) = TermInRange n t
  InRange n (more p minus t) = InRange n p × TermInRange n t

  pub TermInRange : ℕ → Term → Type 0
  TermInRange n (one_factor f) = FactorInRange n f
  TermInRange n (product t f) = TermInRange n t × FactorInRange n f

  pub FactorInRange : ℕ → Factor → Type 0
  FactorInRange n (plain a) = AtomInRange n a
  FactorInRange n (power a minus z) = AtomInRange n a × IsExponentOf a (exponent minus z)

  pub AtomInRange : ℕ → Atom → Type 0
  AtomInRange n (digits z) = IsNumber z
  AtomInRange n (variable i) = IsVariable n i
  AtomInRange n (enclosed p) = InRange n p
