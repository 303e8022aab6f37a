-- Solutions that the reduced rows give.
use Rattle.std.specs.Prelude.{◌≡◌, ℕ, zero, suc, ◌<◌, ◌+◌, List, [], ◌∷◌, ◌++◌, length, ℤ, pos, ◌*ℤ◌}
use Rattle.int_vectors.specs.Vectors.{at, dot, weigh, IsOrthogonal, zeros}
use Rattle.reduced_rows.specs.Carried.{HaveUnits}
use Rattle.reduced_rows.specs.Denominators.{share, shares, lcm_from}
use Rattle.reduced_rows.specs.Spans.{IsReducedOf}

-- With den the lcm of the pivots and c = n + d a column beside the first n: the numbers -(r_c (den / p)) of the reduced rows,
-- then zeros up to column c, and den there, are orthogonal to each given row.
abbrev pub ColumnSolves : Type 0
ColumnSolves = (n d : ℕ) (given made : List (List ℤ)) → IsReducedOf n given made
    → IsOrthogonal given ((shares (n + d) 0 (lcm_from 0 1 made) made ++ zeros d) ++ (pos (lcm_from 0 1 made) ∷ []))

-- column k of the rows, each entry times l over the row's pivot; the first pivot stands in column j
unfoldable pub scaled_column : ℕ → ℕ → ℕ → List (List ℤ) → List ℤ
scaled_column k j l [] = []
scaled_column k j l (row ∷ rows) = share k j l row ∷ scaled_column k (suc j) l rows

-- the products of a vector and the scaled columns off, off + 1, .., m in number
unfoldable pub column_products : ℕ → ℕ → ℕ → List (List ℤ) → List ℤ → List ℤ
column_products zero off l rows v = []
column_products (suc m) off l rows v = dot v (scaled_column off 0 l rows) ∷ column_products m (suc off) l rows v

-- Where the given rows have the unit vectors from column off on, these scaled columns are den times the inverse:
-- den times a vector is the combination of the given rows, in the first n columns, by its products with the columns.
abbrev pub InverseColumns : Type 0
InverseColumns = (n off : ℕ) (given made : List (List ℤ)) (v : List ℤ) → IsReducedOf n given made → HaveUnits off 0 given → length given ≡ n → length v ≡ n
    → (e : ℕ) → e < n → pos (lcm_from 0 1 made) *ℤ at v e ≡ weigh (column_products n off (lcm_from 0 1 made) made v) given (λ g. at g e)
