-- Points with the heights of the generator.
use Rattle.std.specs.Prelude.{ℕ, suc, ◌+◌, List, [], ◌∷◌, length, ℤ, pos, None}
use Rattle.cayley.specs.Problems.{version1}
use Rattle.cayley.specs.Files.{FilePoint, File}
use Rattle.family_gen.specs.Generator.{number, height_of}

-- a point with the height of the n-th number
abbrev pub lifted_point : ℕ → ℕ → List ℤ → FilePoint
lifted_point seed n x = record { coordinates = x; height = pos (height_of (number seed n)) }

-- points with the heights of the numbers behind the first m, in order
unfoldable pub lifted : ℕ → ℕ → List (List ℤ) → List FilePoint
lifted seed m [] = []
lifted seed m (x ∷ xs) = lifted_point seed (suc m) x ∷ lifted seed (suc m) xs

-- the same for supports, one behind the other
unfoldable pub lifted_supports : ℕ → ℕ → List (List (List ℤ)) → List (List FilePoint)
lifted_supports seed m [] = []
lifted_supports seed m (s ∷ ss) = lifted seed m s ∷ lifted_supports seed (m + length s) ss

-- the file of these supports with the heights of the generator, without start heights
abbrev pub lift_file : ℕ → List (List (List ℤ)) → ℕ → File
lift_file dimension supports seed = record { version = version1; dimension = dimension; supports = lifted_supports seed 0 supports; starts = None }
