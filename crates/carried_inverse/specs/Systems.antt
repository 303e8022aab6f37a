-- The inverse of a square system of rows, over a denominator and in lowest terms.
use Rattle.std.specs.Prelude.{◌≡◌, ℕ, ◌<◌, List, length, ℤ, pos, ◌*ℤ◌, ◌<ℤ◌, unsigned_abs}
use Prim.Native.Nat.{◌∣◌}
use Rattle.int_vectors.specs.Contents.{DividesEach}
use Rattle.int_vectors.specs.Vectors.{Each, dot, row_at}
use Rattle.reduced_rows.specs.Carried.{unit}
use Rattle.cayley.specs.Cells.{Cell}
use Rattle.cayley.specs.Problems.{Problem}
use Rattle.cayley.specs.Rows.{edges}
use Rattle.inner_normal.specs.Inverses.{Inverse}

-- the product of a row and a column is den where their places are equal, else 0
abbrev pub Inverts : ℕ → List (List ℤ) → ℤ → List (List ℤ) → Type 0
Inverts n rows den columns = (i k : ℕ) → i < n → k < n → dot (row_at rows i) (row_at columns k) ≡ den *ℤ unit i k

-- no number above 1 divides the denominator and each entry
abbrev pub IsLowest : ℤ → List (List ℤ) → Type 0
IsLowest den columns = (d : ℕ) → d ∣ unsigned_abs den → Each columns (DividesEach d) → d ≡ 1

-- the inverse of n rows of n numbers, in lowest terms
pub record IsScaledInverse (n : ℕ) (rows : List (List ℤ)) (a : Inverse) : Type 0 where
  pub count : length a.columns ≡ n
  pub long : Each a.columns (λ column. length column ≡ n)
  pub positive : pos 0 <ℤ a.den
  pub inverts : Inverts n rows a.den a.columns
  pub lowest : IsLowest a.den a.columns

-- the inverse of a cell's differences, in lowest terms
abbrev pub IsInverseOfCell : Problem → Cell → Inverse → Type 0
IsInverseOfCell p cell a = IsScaledInverse p.dimension (edges p.supports cell) a
