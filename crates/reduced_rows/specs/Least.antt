-- The least number that makes the inverse whole.
use Rattle.std.specs.Prelude.{◌≡◌, ℕ, suc, ◌+◌, ◌<◌, List, [], ◌∷◌, ℤ, pos, ◌*ℤ◌}
use Prim.Native.Nat.{◌∣◌}
use Rattle.int_vectors.specs.Vectors.{at}
use Rattle.reduced_rows.specs.Denominators.{lcm_from}
use Rattle.reduced_rows.specs.Spans.{IsReducedOf}
use Rattle.reduced_rows.specs.Carried.{HaveUnits}

-- x is p times a whole number
abbrev pub IsTimes : ℤ → ℤ → Type 0
IsTimes p x = (q : ℤ) × (p *ℤ q ≡ x)

-- m times each carried entry is a multiple of the row's pivot; the first pivot stands in column j
abbrev pub MakeWhole : ℕ → ℕ → ℕ → List (List ℤ) → Type 0
MakeWhole m off j [] = Unit {0}
MakeWhole m off j (row ∷ rows) = ((i : ℕ) → IsTimes (at row j) (pos m *ℤ at row (off + i))) × MakeWhole m off (suc j) rows

-- the lcm of the pivots divides each number that makes the inverse whole
abbrev pub LeastDen : Type 0
LeastDen = (n off m : ℕ) (given made : List (List ℤ)) → IsReducedOf n given made → HaveUnits off 0 given → 0 < m → MakeWhole m off 0 made → lcm_from 0 1 made ∣ m
