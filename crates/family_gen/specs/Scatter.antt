-- Scattered points.
use Rattle.std.specs.Prelude.{ℕ, zero, suc, ◌+◌, ◌*◌, ◌==◌, Bool, List, [], ◌∷◌, ◌++◌, map, length, pos, None, if◌then◌else◌}
use Rattle.std.specs.List.{range_with_len, list_any, list_all}
use Rattle.std.specs.Cmp.Lexicographic.{pointwise}
use Rattle.cayley.specs.Problems.{version1}
use Rattle.cayley.specs.Files.{FilePoint, File}
use Rattle.family_gen.specs.Generator.{number, coordinate_of}
use Rattle.family_gen.specs.Lifts.{lifted_point}

-- whether each number is the greatest
abbrev pub are_all : ℕ → List ℕ → Bool
are_all side xs = list_all (λ x. x == side) xs

-- the next list of numbers from 0 to side: a number rises where all behind it are the greatest, and the greatest becomes 0
unfoldable pub next : ℕ → List ℕ → List ℕ
next side [] = []
next side (x ∷ xs) = (if are_all side xs then (if x == side then 0 else x + 1) else x) ∷ next side xs

-- a point and the k points that follow it
unfoldable pub walk : ℕ → ℕ → List ℕ → List (List ℕ)
walk side zero x = x ∷ []
walk side (suc k) x = x ∷ walk side k (next side x)

-- whether a point is one of the points
abbrev pub is_among : List ℕ → List (List ℕ) → Bool
is_among x points = list_any (λ p. pointwise (λ a b. a == b) p x) points

-- the first of the points that isn't taken
unfoldable pub first_free : List (List ℕ) → List (List ℕ) → List ℕ
first_free taken [] = []
first_free taken (x ∷ xs) = if is_among x taken then first_free taken xs else x

-- the next point that isn't taken, if the point itself is: of a point and as many behind it as are taken, one is free
abbrev pub next_free : ℕ → List (List ℕ) → List ℕ → List ℕ
next_free side taken x = first_free taken (walk side (length taken) x)

-- the coordinates of the n numbers from the d-th on
abbrev pub drawn : ℕ → ℕ → ℕ → ℕ → List ℕ
drawn seed side d n = map (λ k. coordinate_of side (number seed k)) (range_with_len d n)

-- m points behind those that are taken: each has the height of one number, and of the n numbers behind that the coordinates, moved to the next free point
unfoldable pub scattered : ℕ → ℕ → ℕ → ℕ → ℕ → List (List ℕ) → List FilePoint
scattered seed side n d zero taken = []
scattered seed side n d (suc m) taken =
    let x = next_free side taken (drawn seed side (d + 1) n) in
    lifted_point seed d (map pos x) ∷ scattered seed side n (d + n + 1) m (taken ++ x ∷ [])

-- the i-th support, counted from 0; each point before it took n + 1 numbers
abbrev pub scattered_support : ℕ → ℕ → ℕ → ℕ → ℕ → List FilePoint
scattered_support seed side n m i = scattered seed side n (i * (m * (n + 1)) + 1) m []

-- n supports of m points with coordinates from 0 to side, without start heights
abbrev pub scatter_file : ℕ → ℕ → ℕ → ℕ → File
scatter_file n m side seed = record { version = version1; dimension = n; supports = map (scattered_support seed side n m) (range_with_len 0 n); starts = None }
