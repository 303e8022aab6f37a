-- Polynomials as the grammar writes them, and what they mean.
use Rattle.std.specs.Prelude.{ℕ, suc, ℤ, pos, neg_ℤ, int_le, unsigned_abs, nat_le, Bool, true, false, ◌&&◌, List, [], ◌∷◌, ◌++◌, Option, Some, None, Ok, Err, if◌then◌else◌}
use Rattle.cayley.specs.declared.limits.TheConstants.{COORDINATE}
use Rattle.poly_text.specs.declared.causes.Cause.TheVariants.{Range, Bound}
use Rattle.poly_text.specs.declared.limits.TheConstants.{OPEN, POWER}
use Rattle.poly_text.specs.declared.reading.Base.{Base}
use Rattle.poly_text.specs.declared.reading.Base.TheVariants.{Named, Valued}
use Rattle.poly_text.specs.declared.symbols.Symbol.{Symbol}
use Rattle.poly_text.specs.declared.symbols.Symbol.TheVariants.{Digits, Variable, Sign, Times, Power, Open, Close}
use Rattle.poly_text.specs.Maps.{Monomial, constant, power_of_variable}
use Rattle.poly_text.specs.Bounds.{Verdict, ◌>>=◌, added, multiplied, raised}

mutual
  -- an optional sign and a term, then terms with `+` or `-` before them; true is `-`
  pub data Polynomial : Type 0 where
    first : Option Bool → Term → Polynomial
    more : Polynomial → Bool → Term → Polynomial

  -- factors joined by `*`
  pub data Term : Type 0 where
    one_factor : Factor → Term
    product : Term → Factor → Term

  -- an atom, or an atom, `^` and an exponent with or without `-`
  pub data Factor : Type 0 where
    plain : Atom → Factor
    power : Atom → Bool → Option ℤ → Factor

  -- digits, a variable, or a polynomial in parentheses
  pub data Atom : Type 0 where
    digits : Option ℤ → Atom
    variable : Option ℤ → Atom
    enclosed : Polynomial → Atom

abbrev pub written_sign : Option Bool → List Symbol
written_sign None = []
written_sign (Some minus) = Sign minus ∷ []

abbrev pub written_minus : Bool → List Symbol
written_minus false = []
written_minus true = Sign true ∷ []

-- the symbols of a polynomial and of its parts
unfoldable mutual
  pub written : Polynomial → List Symbol
  written (first sign t) = written_sign sign ++ written_term t
  written (more p minus t) = written p ++ (Sign minus ∷ written_term t)

  pub written_term : Term → List Symbol
  written_term (one_factor f) = written_factor f
  written_term (product t f) = written_term t ++ (Times ∷ written_factor f)

  pub written_factor : Factor → List Symbol
  written_factor (plain a) = written_atom a
  written_factor (power a minus z) = written_atom a ++ (Power ∷ (written_minus minus ++ Digits z ∷ []))

  pub written_atom : Atom → List Symbol
  written_atom (digits z) = Digits z ∷ []
  written_atom (variable i) = Variable i ∷ []
  written_atom (enclosed p) = Open ∷ (written p ++ Close ∷ [])

-- go on with two parts; where one means nothing, what is out of range goes before a broken bound
abbrev pub both : {A B C : Type 0} → (A → B → Verdict C) → Verdict A → Verdict B → Verdict C
both op (Err Range) w = Err Range
both op (Err Bound) (Err c) = Err c
both op (Err Bound) (Ok y) = Err Bound
both op (Ok x) (Err c) = Err c
both op (Ok x) (Ok y) = op x y

-- digits are at most 2^127 - 1
abbrev pub number : ℕ → Option ℤ → Verdict (List Monomial)
number n (Some z) = Ok (constant n z)
number n None = Err Range

-- the variable is one of x1 to xn, the exponent from -1,000,000 to 1,000,000
abbrev pub variable_power : ℕ → Option ℤ → ℤ → Verdict (List Monomial)
variable_power n (Some i) k =
    if (int_le (pos 1) i && int_le i (pos n)) && (int_le (neg_ℤ (pos COORDINATE)) k && int_le k (pos COORDINATE)) then Ok (power_of_variable n i k)
    else Err Range
variable_power n None k = Err Range

-- the exponent is from 0 to 16
abbrev pub value_power : ℕ → Verdict (List Monomial) → ℤ → Verdict (List Monomial)
value_power n v k = if int_le (pos 0) k && int_le k (pos POWER) then (v >>= λ f. raised n f (unsigned_abs k)) else Err Range

abbrev pub exponent : Bool → Option ℤ → Option ℤ
exponent minus None = None
exponent minus (Some z) = Some (if minus then neg_ℤ z else z)

abbrev pub base_power : ℕ → Base → Option ℤ → Verdict (List Monomial)
base_power n b None = Err Range
base_power n (Named i) (Some k) = variable_power n i k
base_power n (Valued v) (Some k) = value_power n v k

abbrev pub base_value : ℕ → Base → Verdict (List Monomial)
base_value n (Named i) = variable_power n i (pos 1)
base_value n (Valued v) = v

-- at most 64 parentheses are open
abbrev pub within : ℕ → Verdict (List Monomial) → Verdict (List Monomial)
within depth (Err c) = Err c
within depth (Ok f) = if nat_le depth OPEN then Ok f else Err Bound

abbrev pub minus_of : Option Bool → Bool
minus_of None = false
minus_of (Some minus) = minus

-- what a polynomial of n variables and its parts mean behind so many open parentheses; a sum begins with 0, a product with 1
unfoldable mutual
  pub meaning : ℕ → ℕ → Polynomial → Verdict (List Monomial)
  meaning n depth (first sign t) = both (added (minus_of sign)) (Ok []) (meaning_term n depth t)
  meaning n depth (more p minus t) = both (added minus) (meaning n depth p) (meaning_term n depth t)

  pub meaning_term : ℕ → ℕ → Term → Verdict (List Monomial)
  meaning_term n depth (one_factor f) = both multiplied (Ok (constant n (pos 1))) (meaning_factor n depth f)
  meaning_term n depth (product t f) = both multiplied (meaning_term n depth t) (meaning_factor n depth f)

  pub meaning_factor : ℕ → ℕ → Factor → Verdict (List Monomial)
  meaning_factor n depth (plain a) = base_value n (base n depth a)
  meaning_factor n depth (power a minus z) = base_power n (base n depth a) (exponent minus z)

  pub base : ℕ → ℕ → Atom → Base
  base n depth (digits z) = Valued (number n z)
  base n depth (variable i) = Named i
  base n depth (enclosed p) = Valued (within (suc depth) (meaning n (suc depth) p))
