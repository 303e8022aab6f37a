-- The inverse of a cell's differences, times its least denominator. It is read off the last n columns of the reduced rows.
use Rattle.std.specs.Prelude.{◌≡◌, ℕ, zero, suc, ◌+◌, List, [], ◌∷◌, length, ℤ, pos}
use Rattle.reduced_rows.specs.CellRefusals.{IsEliminated}
use Rattle.reduced_rows.specs.Denominators.{lcm_from, FitsLcm, FitsShares}
use Rattle.reduced_rows.specs.Solutions.{scaled_column}
use Rattle.cayley.specs.Problems.{Problem}
use Rattle.cayley.specs.Cells.{Cell}
use Rattle.cayley.specs.Rows.{edge_rows}

-- a denominator, and the columns of the inverse times it
pub record Inverse : Type 0 where
  pub den : ℤ
  pub columns : List (List ℤ)

-- m columns of the rows from column off on, each entry times l over its row's pivot
abbrev pub scaled_columns : ℕ → ℕ → ℕ → List (List ℤ) → List (List ℤ)
scaled_columns zero off l made = []
scaled_columns (suc m) off l made = scaled_column off 0 l made ∷ scaled_columns m (suc off) l made

-- each number of them fits
abbrev pub FitsColumns : ℕ → ℕ → ℕ → List (List ℤ) → Type 0
FitsColumns zero off l made = Unit {0}
FitsColumns (suc m) off l made = FitsShares off 0 l made × FitsColumns m (suc off) l made

-- over the least common multiple of the pivots; two columns stand between the differences and the inverse
abbrev pub inverse_of : List (List ℤ) → Inverse
inverse_of made = record {
  den = pos (lcm_from 0 1 made);
  columns = scaled_columns (length made) (length made + 2) (lcm_from 0 1 made) made;
}

-- the denominator and each number of the columns fit
abbrev pub FitsInverse : List (List ℤ) → Type 0
FitsInverse made = FitsLcm 0 1 made × FitsColumns (length made) (length made + 2) (lcm_from 0 1 made) made

-- the inverse of what the elimination of the cell's rows gives
abbrev pub IsInverseOf : Problem → Cell → Inverse → Type 0
IsInverseOf p cell inverse = (made : List (List ℤ)) × IsEliminated p.dimension (edge_rows p cell) made × (inverse ≡ inverse_of made)
