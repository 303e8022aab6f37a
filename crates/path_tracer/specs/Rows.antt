-- A matrix by its columns.
use Rattle.std.specs.Prelude.{ℕ, zero, suc, List, [], ◌++◌, ℤ}
use Rattle.int_vectors.specs.Vectors.{entries_at}

-- m rows from place i on, one after the other
abbrev pub rows_of : ℕ → ℕ → List (List ℤ) → List ℤ
rows_of zero i columns = []
rows_of (suc m) i columns = entries_at i columns ++ rows_of m (suc i) columns
