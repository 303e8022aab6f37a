-- Polynomials with negative exponents allowed, as finite maps from lists of exponents to coefficients other than 0.
use Rattle.std.specs.Prelude.{ℕ, ◌+◌, List, [], ◌∷◌, map, flat_map, ℤ, pos, neg_ℤ, ◌+ℤ◌, ◌*ℤ◌, Bool, if◌then◌else◌}
use Rattle.std.specs.Option.{unwrap_or}
use Rattle.std.specs.Ordering.{int_cmp, int_eq}
use Rattle.std.specs.declared.cmp.Ordering.{Ordering}
use Rattle.std.specs.Cmp.Lexicographic.{slice_cmp}
use Rattle.std.specs.List.{range_with_len}
use Rattle.std.specs.Map.{lookup, remove_entry}
use Rattle.std.specs.BTreeMap.{is_at, insert_entry}

-- exponents and a coefficient
abbrev pub Monomial : Type 0
Monomial = List ℤ × ℤ

-- the order of lists of exponents: the first difference decides
abbrev pub exponents_cmp : List ℤ → List ℤ → Ordering
exponents_cmp xs ys = slice_cmp int_cmp xs ys

-- the coefficient at a list of exponents, 0 where the map has none
abbrev pub coefficient : List ℤ → List Monomial → ℤ
coefficient xs f = unwrap_or (lookup (is_at (exponents_cmp xs)) f) (pos 0)

-- the map with this coefficient at a list of exponents; 0 leaves no entry
unfoldable pub with_coefficient : List ℤ → ℤ → List Monomial → List Monomial
with_coefficient xs z f = if int_eq z (pos 0) then remove_entry (is_at (exponents_cmp xs)) f else insert_entry exponents_cmp f xs z

-- the map and one term more
unfoldable pub plus_term : List Monomial → Monomial → List Monomial
plus_term f t = with_coefficient t.0 (coefficient t.0 f +ℤ t.1) f

-- the exponents of a product
abbrev pub sum_of_exponents : List ℤ → List ℤ → List ℤ
sum_of_exponents [] ys = []
sum_of_exponents (x ∷ xs) [] = []
sum_of_exponents (x ∷ xs) (y ∷ ys) = (x +ℤ y) ∷ sum_of_exponents xs ys

-- the product of two terms
abbrev pub times : Monomial → Monomial → Monomial
times s t = (sum_of_exponents s.0 t.0, s.1 *ℤ t.1)

-- the products of each term of the left, in order, with each of the right, in order
abbrev pub products : List Monomial → List Monomial → List Monomial
products f g = flat_map (λ s. map (times s) g) f

-- a term with its sign turned, or as it is
abbrev pub signed : Bool → Monomial → Monomial
signed minus t = (t.0, if minus then neg_ℤ t.1 else t.1)

-- n exponents: k at the variable i, counted from 1, and 0 else
abbrev pub exponents_of : ℕ → ℤ → ℤ → List ℤ
exponents_of n i k = map (λ j. if int_eq i (pos (j + 1)) then k else pos 0) (range_with_len 0 n)

-- a number as a polynomial of n variables
abbrev pub constant : ℕ → ℤ → List Monomial
constant n z = plus_term [] (exponents_of n (pos 0) (pos 0), z)

-- a power of the variable i
abbrev pub power_of_variable : ℕ → ℤ → ℤ → List Monomial
power_of_variable n i k = plus_term [] (exponents_of n i k, pos 1)
