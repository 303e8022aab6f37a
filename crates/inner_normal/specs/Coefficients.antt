-- The numbers of a cell's dependency with one further point, over unbounded whole numbers. Places j count from 0, positions c from 1.
use Rattle.std.specs.Prelude.{ℕ, zero, suc, List, [], ◌∷◌, map, ℤ, pos, ◌-ℤ◌, neg_ℤ}
use Rattle.wide_int.specs.Whole.{FitsWhole}
use Rattle.int_vectors.specs.Fits.{FitsDot}
use Rattle.int_vectors.specs.Vectors.{Each, at, sub, dot}
use Rattle.cayley.specs.Problems.{Problem, point_at}
use Rattle.cayley.specs.Cells.{Cell}
use Rattle.cayley.specs.Dependencies.{Numbers, pair_at, nth_support}
use Rattle.inner_normal.specs.Inverses.{Inverse, inverse_of, FitsInverse}

-- the further point c of support j less the first point of its pair
abbrev pub difference : Problem → Cell → ℕ → ℕ → List ℤ
difference p cell j c = sub (point_at (nth_support p.supports j) c).coordinates (point_at (nth_support p.supports j) (pair_at cell j).0).coordinates

-- the products M_i of the difference and the columns
abbrev pub products : List ℤ → List (List ℤ) → List ℤ
products v columns = map (dot v) columns

-- m, less den where the two places are one
abbrev pub less_own : ℕ → ℕ → ℤ → ℤ → ℤ
less_own zero zero den m = m -ℤ den
less_own zero (suc j) den m = m
less_own (suc i) zero den m = m
less_own (suc i) (suc j) den m = less_own i j den m

-- M_i and -M_i for the pairs from place i on, but M_j - den for the first point in support j; then den for the further point
abbrev pub coefficients_from : ℕ → ℕ → ℤ → List ℤ → List ℤ
coefficients_from i j den [] = den ∷ []
coefficients_from i j den (m ∷ ms) = less_own i j den m ∷ neg_ℤ m ∷ coefficients_from (suc i) j den ms

-- the numbers of the points a1, b1, .., an, bn, c
abbrev pub coefficients_of : ℕ → Inverse → List ℤ → List ℤ
coefficients_of j inverse v = coefficients_from 0 j inverse.den (products v inverse.columns)

-- each product of c's difference and a column fits, and so does M_j - den
abbrev pub FitsCoefficients : ℕ → Inverse → List ℤ → Type 0
FitsCoefficients j inverse v = Each inverse.columns (FitsDot (pos 0) v) × FitsWhole (at (products v inverse.columns) j -ℤ inverse.den)

-- the inverse of the reduced rows and the coefficients fit
abbrev pub FitsCircuit : Problem → Cell → ℕ → ℕ → List (List ℤ) → Type 0
FitsCircuit p cell j c made = FitsInverse made × FitsCoefficients j (inverse_of made) (difference p cell j c)

-- the numbers two by two, without the last of an odd count
abbrev pub pairs_of : List ℤ → List (ℤ × ℤ)
pairs_of [] = []
pairs_of (x ∷ []) = []
pairs_of (x ∷ y ∷ xs) = (x, y) ∷ pairs_of xs

-- the last of an odd count
abbrev pub last_of : List ℤ → ℤ
last_of [] = pos 0
last_of (x ∷ []) = x
last_of (x ∷ y ∷ xs) = last_of xs

-- a list a1, b1, .., an, bn, c as two numbers for each pair and one for the further point
abbrev pub numbers_of : List ℤ → Numbers
numbers_of xs = record { pairs = pairs_of xs; last = last_of xs }
