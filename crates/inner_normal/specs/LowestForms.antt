-- A vector over a denominator, in lowest terms.
use Rattle.std.specs.Prelude.{◌≡◌, List, ◌∷◌, ℤ, pos, ◌*ℤ◌, ◌<ℤ◌}
use Rattle.int_vectors.specs.Vectors.{scale}
use Rattle.cayley.specs.Mixed.{IsCoprime}

-- w / d is v / den without a common divisor
abbrev pub IsLowestForm : List ℤ → ℤ → List ℤ → ℤ → Type 0
IsLowestForm v den w d = (pos 0 <ℤ d) × IsCoprime (d ∷ w) × ((k : ℤ) × (v ≡ scale k w) × (k *ℤ d ≡ den))
