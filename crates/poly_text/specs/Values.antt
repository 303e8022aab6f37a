-- Values of polynomials: the sums, products and powers of the ring of polynomials, with negative exponents allowed.
use Rattle.std.specs.Prelude.{◌≡◌, ◌≢◌, ◌↔◌, ℕ, suc, zero, List, [], ◌∷◌, ◌++◌, map, length, ℤ, pos, ◌+ℤ◌, unsigned_abs, Bool, Option, Some, None, if◌then◌else◌}
use Rattle.std.specs.List.{Contains}
use Rattle.std.specs.List.Sorted.{IsStrictlySortedBy}
use Rattle.std.specs.BTreeMap.{is_at}
use Rattle.poly_text.specs.Maps.{Monomial, exponents_cmp, products, signed, exponents_of}
use Rattle.poly_text.specs.Trees.{Polynomial, Term, Factor, Atom, first, more, one_factor, product, plain, power, digits, variable, enclosed, exponent, minus_of}

-- two lists of exponents are the same
abbrev pub are_same : List ℤ → List ℤ → Bool
are_same xs ys = is_at (exponents_cmp xs) ys

-- the number of a term at a list of exponents, 0 where the term has others
abbrev pub number_at : List ℤ → Monomial → ℤ
number_at xs t = if are_same xs t.0 then t.1 else pos 0

-- the coefficient of a sum of terms at a list of exponents: the sum of the numbers of its terms with these exponents
unfoldable pub total_at : List ℤ → List Monomial → ℤ
total_at xs [] = pos 0
total_at xs (t ∷ ts) = number_at xs t +ℤ total_at xs ts

-- a number, and a power of a variable, of n variables
abbrev pub number_value : ℕ → Option ℤ → List Monomial
number_value n None = []
number_value n (Some z) = (exponents_of n (pos 0) (pos 0), z) ∷ []

abbrev pub variable_value : ℕ → Option ℤ → Option ℤ → List Monomial
variable_value n None k = []
variable_value n (Some i) None = []
variable_value n (Some i) (Some k) = (exponents_of n i k, pos 1) ∷ []

-- the product of k times the same
unfoldable pub times_itself : ℕ → List Monomial → ℕ → List Monomial
times_itself n v zero = number_value n (Some (pos 1))
times_itself n v (suc k) = products (times_itself n v k) v

abbrev pub whole_power : ℕ → List Monomial → Option ℤ → List Monomial
whole_power n v None = []
whole_power n v (Some k) = times_itself n v (unsigned_abs k)

-- a power of an atom with this value
abbrev pub power_value : ℕ → Atom → List Monomial → Option ℤ → List Monomial
power_value n (digits z) v k = whole_power n v k
power_value n (variable i) v k = variable_value n i k
power_value n (enclosed p) v k = whole_power n v k

-- the value of a polynomial of n variables and of its parts, as a sum of terms of which several may have the same exponents
unfoldable mutual
  pub value : ℕ → Polynomial → List Monomial
  value n (first sign t) = map (signed (minus_of sign)) (value_of_term n t)
  value n (more p minus t) = value n p ++ map (signed minus) (value_of_term n t)

  pub value_of_term : ℕ → Term → List Monomial
  value_of_term n (one_factor f) = value_of_factor n f
  value_of_term n (product t f) = products (value_of_term n t) (value_of_factor n f)

  pub value_of_factor : ℕ → Factor → List Monomial
  value_of_factor n (plain a) = value_of_atom n a
  value_of_factor n (power a minus z) = power_value n a (value_of_atom n a) (exponent minus z)

  pub value_of_atom : ℕ → Atom → List Monomial
  value_of_atom n (digits z) = number_value n z
  value_of_atom n (variable i) = variable_value n i (Some (pos 1))
  value_of_atom n (enclosed p) = value n p

-- the points ascend, the first difference of two decides
abbrev pub Ascend : List (List ℤ) → Type 0
Ascend points = IsStrictlySortedBy exponents_cmp points

-- the points are the lists of n exponents at which the coefficient isn't 0, in ascending order
pub record IsSupport (n : ℕ) (terms : List Monomial) (points : List (List ℤ)) : Type 0 where
  pub ascending : Ascend points
  pub exactly : (xs : List ℤ) → Contains points xs ↔ ((length xs ≡ n) × (total_at xs terms ≢ pos 0))
