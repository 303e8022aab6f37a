-- Bounds on sums of absolute values, in place of a check for each number.
use Rattle.std.specs.Prelude.{ℕ, ◌+◌, ◌*◌, ◌^◌, ◌<◌, ◌≤◌, List, [], ◌∷◌, ℤ, unsigned_abs}

-- the sum of the absolute values
abbrev pub size : List ℤ → ℕ
size [] = 0
size (x ∷ xs) = unsigned_abs x + size xs

-- no absolute value is above w
abbrev pub Within : ℕ → List ℤ → Type 0
Within w [] = Unit {0}
Within w (x ∷ xs) = (unsigned_abs x ≤ w) × Within w xs

-- the absolute values of the start and of all products, with w in place of each second factor, sum to less than the limit
abbrev pub SumBelow : ℕ → ℕ → ℤ → List ℤ → Type 0
SumBelow limit w start a = unsigned_abs start + size a * w < limit

-- the same for some w that bounds the second factors
abbrev pub Room : ℕ → ℤ → List ℤ → List ℤ → Type 0
Room limit start a b = (w : ℕ) × Within w b × SumBelow limit w start a

-- p x - f y stays below the limit, by bounds on the two rows
abbrev pub StepRoom : ℕ → ℤ → ℤ → List ℤ → List ℤ → Type 0
StepRoom limit p f xs ys = (u v : ℕ) × Within u xs × Within v ys × (unsigned_abs p * u + unsigned_abs f * v < limit)

-- far within 64 bits
abbrev pub IsNarrow : ℤ → Type 0
IsNarrow z = unsigned_abs z < 2 ^ 62

-- p x - f y stays far within 64 bits, and so do its numbers
abbrev pub IsNarrowStep : ℤ → ℕ → ℤ → ℕ → Type 0
IsNarrowStep p u f v = IsNarrow p × IsNarrow f × (u < 2 ^ 62) × (v < 2 ^ 62) × (unsigned_abs p * u + unsigned_abs f * v < 2 ^ 62)

-- the same of two rows, by bounds on them
abbrev pub NarrowStepRoom : ℤ → ℤ → List ℤ → List ℤ → Type 0
NarrowStepRoom p f xs ys = (u v : ℕ) × Within u xs × Within v ys × IsNarrowStep p u f v
