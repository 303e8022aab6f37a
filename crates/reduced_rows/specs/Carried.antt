-- The columns that carry how a row was made.
use Rattle.std.specs.Prelude.{◌≡◌, ℕ, zero, suc, ◌+◌, List, [], ◌∷◌, drop, ℤ, pos}
use Rattle.int_vectors.specs.Vectors.{weigh, at}
use Rattle.reduced_rows.specs.Spans.{InSpan}

-- the row is the combination of the given rows by its own entries from column off on
abbrev pub Carries : ℕ → List (List ℤ) → List ℤ → Type 0
Carries off given row = (e : ℕ) → at row e ≡ weigh (drop off row) given (λ g. at g e)

-- 1 at j, 0 elsewhere
abbrev pub unit : ℕ → ℕ → ℤ
unit zero zero = pos 1
unit zero (suc i) = pos 0
unit (suc j) zero = pos 0
unit (suc j) (suc i) = unit j i

-- from column off on the rows have the unit vectors, the first of them with its 1 at j
abbrev pub HaveUnits : ℕ → ℕ → List (List ℤ) → Type 0
HaveUnits off j [] = Unit {0}
HaveUnits off j (row ∷ rows) = ((i : ℕ) → at row (off + i) ≡ unit j i) × HaveUnits off (suc j) rows

-- what lies in the span of rows with unit vectors carries how it was made
abbrev pub SpanCarries : Type 0
SpanCarries = (off : ℕ) (given : List (List ℤ)) (row : List ℤ) → HaveUnits off 0 given → InSpan given row → Carries off given row
