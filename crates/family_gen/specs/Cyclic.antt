-- The supports of the cyclic roots system.
use Rattle.std.specs.Prelude.{ℕ, ◌+◌, ◌-◌, ◌%◌, nat_lt, List, [], ◌∷◌, ◌++◌, map, ℤ, pos, if◌then◌else◌}
use Rattle.std.specs.List.{range_with_len}
use Rattle.cayley.specs.Files.{File}
use Rattle.family_gen.specs.Lifts.{lift_file}

-- 1 where a place is one of the k places from i on, counted round, and else 0
unfoldable pub entry_of : ℕ → ℕ → ℕ → ℕ → ℤ
entry_of n k i p = if nat_lt ((p + n - i) % n) k then pos 1 else pos 0

-- the vector of n places with ones in the k places from i on
abbrev pub window : ℕ → ℕ → ℕ → List ℤ
window n k i = map (entry_of n k i) (range_with_len 0 n)

-- the n vectors with k ones that stand together
abbrev pub windows : ℕ → ℕ → List (List ℤ)
windows n k = map (window n k) (range_with_len 0 n)

-- the vector of ones and then the zero vector
abbrev pub last_support : ℕ → List (List ℤ)
last_support n = window n n 0 ∷ window n 0 0 ∷ []

-- the supports of the sums of products of k variables for k below n, and that of the product of all variables less 1
abbrev pub cyclic_supports : ℕ → List (List (List ℤ))
cyclic_supports n = map (windows n) (range_with_len 1 (n - 1)) ++ last_support n ∷ []

abbrev pub cyclic_file : ℕ → ℕ → File
cyclic_file n seed = lift_file n (cyclic_supports n) seed
