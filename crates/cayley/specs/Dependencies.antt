-- Dependencies of a cell and a further point.
use Rattle.std.specs.Prelude.{◌≡◌, ℕ, zero, suc, List, [], ◌∷◌, length, ℤ, pos, ◌+ℤ◌, ◌*ℤ◌, ◌<ℤ◌, neg_ℤ}
use Rattle.int_vectors.specs.Vectors.{at, add, scale}
use Rattle.cayley.specs.Times.{Time}
use Rattle.cayley.specs.Problems.{Point, Problem, point_at}
use Rattle.cayley.specs.Cells.{Cell, IsFurther}
use Rattle.cayley.specs.Normals.{height}

-- the support at a place, counted from 0
abbrev pub nth_support : List (List Point) → ℕ → List Point
nth_support [] j = []
nth_support (s ∷ supports) zero = s
nth_support (s ∷ supports) (suc j) = nth_support supports j

-- the pair at a place
abbrev pub pair_at : Cell → ℕ → ℕ × ℕ
pair_at [] j = (0, 0)
pair_at (x ∷ cell) zero = x
pair_at (x ∷ cell) (suc j) = pair_at cell j

-- c is a further point of support j
abbrev pub IsFurtherAt : Problem → Cell → ℕ → ℕ → Type 0
IsFurtherAt p cell j c = IsFurther (nth_support p.supports j) (pair_at cell j).0 (pair_at cell j).1 c

-- two numbers for each pair, and one for the further point
pub record Numbers : Type 0 where
  pub pairs : List (ℤ × ℤ)
  pub last : ℤ

-- the numbers of the pair at a place
abbrev pub number_at : List (ℤ × ℤ) → ℕ → ℤ × ℤ
number_at [] j = (pos 0, pos 0)
number_at (m ∷ ms) zero = m
number_at (m ∷ ms) (suc j) = number_at ms j

abbrev pub IsNothing : List (ℤ × ℤ) → Type 0
IsNothing [] = Unit {0}
IsNothing (m ∷ ms) = (m.0 ≡ pos 0) × (m.1 ≡ pos 0) × IsNothing ms

-- on each support the numbers add up to zero; the last one counts in support j
abbrev pub SumsAreZero : List (ℤ × ℤ) → ℕ → ℤ → Type 0
SumsAreZero [] j g = Unit {0}
SumsAreZero (m ∷ ms) zero g = (m.0 +ℤ m.1 +ℤ g ≡ pos 0) × SumsAreZero ms zero (pos 0)
SumsAreZero (m ∷ ms) (suc j) g = (m.0 +ℤ m.1 ≡ pos 0) × SumsAreZero ms j g

-- the sum of the numbers times f at the cell's points
abbrev pub total : List (ℤ × ℤ) → List (List Point) → Cell → (Point → ℤ) → ℤ
total [] supports cell f = pos 0
total (m ∷ ms) [] cell f = pos 0
total (m ∷ ms) (s ∷ supports) [] f = pos 0
total (m ∷ ms) (s ∷ supports) (x ∷ cell) f = m.0 *ℤ f (point_at s x.0) +ℤ m.1 *ℤ f (point_at s x.1) +ℤ total ms supports cell f

-- not all zero, with the sum zero on each support and the sum of the coordinates times the numbers the zero vector
abbrev pub IsDependencyWith : Problem → Cell → ℕ → Point → Numbers → Type 0
IsDependencyWith p cell j c numbers = ¬ (IsNothing numbers.pairs × (numbers.last ≡ pos 0))
    × SumsAreZero numbers.pairs j numbers.last
    × ((k : ℕ) → total numbers.pairs p.supports cell (λ x. at x.coordinates k) +ℤ numbers.last *ℤ at c.coordinates k ≡ pos 0)

-- a dependency of a cell and the further point c of support j: two numbers for each pair of the cell, and one for c
abbrev pub IsDependencyOf : Problem → Cell → ℕ → ℕ → Numbers → Type 0
IsDependencyOf p cell j c numbers = (length numbers.pairs ≡ length cell) × IsDependencyWith p cell j (point_at (nth_support p.supports j) c) numbers

abbrev pub IsPositiveDependency : Problem → Cell → ℕ → ℕ → Numbers → Type 0
IsPositiveDependency p cell j c numbers = (pos 0 <ℤ numbers.last) × IsDependencyOf p cell j c numbers

-- all numbers of others are the fraction others.last / numbers.last of those of numbers
abbrev pub IsMultiple : Numbers → Numbers → Type 0
IsMultiple others numbers = (i : ℕ) → (numbers.last *ℤ (number_at others.pairs i).0 ≡ others.last *ℤ (number_at numbers.pairs i).0)
    × (numbers.last *ℤ (number_at others.pairs i).1 ≡ others.last *ℤ (number_at numbers.pairs i).1)

-- the sum of the numbers times the heights of the cell's points, times the time's denominator
abbrev pub sum_of_heights : Time → List (ℤ × ℤ) → List (List Point) → Cell → List ℤ
sum_of_heights t [] supports cell = []
sum_of_heights t (m ∷ ms) [] cell = []
sum_of_heights t (m ∷ ms) (s ∷ supports) [] = []
sum_of_heights t (m ∷ ms) (s ∷ supports) (x ∷ cell) = add (add (scale m.0 (height t (point_at s x.0))) (scale m.1 (height t (point_at s x.1)))) (sum_of_heights t ms supports cell)

-- the same with the further point's
abbrev pub sum_at : Time → Numbers → Problem → Cell → Point → List ℤ
sum_at t numbers p cell c = add (sum_of_heights t numbers.pairs p.supports cell) (scale numbers.last (height t c))

abbrev pub minus : List ℤ → List ℤ
minus u = scale (neg_ℤ (pos 1)) u
