-- Sums, products and powers as long as they keep their bounds. The order in which like terms are collected shows here alone: a partial sum may be past the bound where the whole sum isn't.
use Rattle.std.specs.Prelude.{ℕ, suc, zero, ◌^◌, List, [], ◌∷◌, map, ℤ, pos, ◌+ℤ◌, unsigned_abs, Bool, ◌&&◌, nat_lt, nat_le, length, Result, Ok, Err, if◌then◌else◌}
use Rattle.std.specs.List.{list_all}
use Rattle.cayley.specs.declared.limits.TheConstants.{POINTS, COORDINATE}
use Rattle.poly_text.specs.declared.causes.Cause.{Cause}
use Rattle.poly_text.specs.declared.causes.Cause.TheVariants.{Bound}
use Rattle.poly_text.specs.Maps.{Monomial, coefficient, plus_term, products, signed, constant}

-- what a part of a polynomial means, or why it means nothing
abbrev pub Verdict : Type 0 → Type 0
Verdict A = Result A Cause

-- go on with what was found
infixl 10 ◌>>=◌
abbrev pub ◌>>=◌ : {A B : Type 0} → Verdict A → (A → Verdict B) → Verdict B
(Ok x) >>= f = f x
(Err c) >>= f = Err c

-- the absolute value is at most 2^127 - 1
abbrev pub fits : ℤ → Bool
fits z = nat_lt (unsigned_abs z) (2 ^ 127)

-- one term more, where its numbers and the coefficient that it makes fit
unfoldable pub with_term : List Monomial → Monomial → Verdict (List Monomial)
with_term f t = if list_all fits t.0 && (fits t.1 && fits (coefficient t.0 f +ℤ t.1)) then Ok (plus_term f t) else Err Bound

-- terms added one after the other
unfoldable pub collected : List Monomial → List Monomial → Verdict (List Monomial)
collected f [] = Ok f
collected f (t ∷ ts) = with_term f t >>= λ g. collected g ts

-- an exponent is from -1,000,000 to 1,000,000
abbrev pub is_exponent : ℤ → Bool
is_exponent z = nat_le (unsigned_abs z) COORDINATE

-- at most 1,000 terms, with exponents in their limits
unfoldable pub is_small : List Monomial → Bool
is_small f = nat_le (length f) POINTS && list_all (λ (t : Monomial). list_all is_exponent t.0) f

abbrev pub bounded : List Monomial → Verdict (List Monomial)
bounded f = if is_small f then Ok f else Err Bound

-- a sum or a difference
unfoldable pub added : Bool → List Monomial → List Monomial → Verdict (List Monomial)
added minus f g = collected f (map (signed minus) g) >>= bounded

-- a product
unfoldable pub multiplied : List Monomial → List Monomial → Verdict (List Monomial)
multiplied f g = collected [] (products f g) >>= bounded

-- the product of k times the same, from the left; 1 where k is 0
unfoldable pub raised : ℕ → List Monomial → ℕ → Verdict (List Monomial)
raised n f zero = Ok (constant n (pos 1))
raised n f (suc k) = raised n f k >>= λ g. multiplied g f
