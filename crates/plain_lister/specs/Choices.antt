-- Choices: one pair of points in each support, and how many there are.
use Rattle.std.specs.Prelude.{◌≡◌, ℕ, ◌+◌, ◌*◌, ◌/◌, ◌-◌, ◌<◌, ◌≤◌, List, [], ◌∷◌, length, map, take}
use Rattle.cayley.specs.declared.limits.TheConstants.{DIMENSIONS, POINTS}
use Rattle.cayley.specs.Problems.{Point, Problem}

-- the greatest number of points of a support: file points and corners
abbrev pub most_points : ℕ
most_points = POINTS + (DIMENSIONS + 1)

-- how many pairs m points have
abbrev pub pairs_of : ℕ → ℕ
pairs_of m = m * (m - 1) / 2

abbrev pub product : List ℕ → ℕ
product [] = 1
product (n ∷ ns) = n * product ns

-- the numbers of pairs of the supports
abbrev pub pair_counts : List (List Point) → List ℕ
pair_counts supports = map (λ s. pairs_of (length s)) supports

-- more choices than the lister tries
abbrev pub HasTooMany : Problem → Type 0
HasTooMany p = 1000000 < product (pair_counts p.supports)

-- the product of the first k numbers, for the least k at which it exceeds the limit
abbrev pub IsExcessOf : List ℕ → ℕ → Type 0
IsExcessOf counts choices = (1000000 < choices)
    × ((k : ℕ) × (product (take k counts) ≡ choices) × ((j : ℕ) → j < k → product (take j counts) ≤ 1000000))

-- the choices of the first k supports, for the least k at which they exceed the limit
abbrev pub IsExcess : Problem → ℕ → Type 0
IsExcess p choices = IsExcessOf (pair_counts p.supports) choices

-- each support has a pair
abbrev pub HavePairs : List ℕ → Type 0
HavePairs [] = Unit {0}
HavePairs (m ∷ counts) = (2 ≤ m) × HavePairs counts
