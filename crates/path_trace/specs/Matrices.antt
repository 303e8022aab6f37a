-- Square matrices that are written row after row.
use Rattle.std.specs.Prelude.{ℕ, zero, suc, List, [], ◌∷◌, drop, ℤ}
use Rattle.int_vectors.specs.Vectors.{at}

-- the entry at place k of each of m rows of n numbers
abbrev pub column : ℕ → ℕ → ℕ → List ℤ → List ℤ
column n k zero xs = []
column n k (suc m) xs = at xs k ∷ column n k m (drop n xs)

-- m columns from place k on
abbrev pub columns_from : ℕ → ℕ → ℕ → List ℤ → List (List ℤ)
columns_from n k zero xs = []
columns_from n k (suc m) xs = column n k n xs ∷ columns_from n (suc k) m xs

-- the columns of a matrix of n rows of n numbers
abbrev pub columns : ℕ → List ℤ → List (List ℤ)
columns n xs = columns_from n 0 n xs
