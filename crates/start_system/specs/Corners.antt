-- The corners of one support: what they are made of, and whether those that a problem has are those of a path.
use Rattle.std.specs.Prelude.{◌≡◌, ◌≢◌, ℕ, suc, ◌+◌, ◌≤◌, ◌-◌, List, length, map, take, drop, ℤ, pos, ◌≤ℤ◌}
use Rattle.int_vectors.specs.Vectors.{Each, add, at_place}
use Rattle.cayley.specs.Problems.{Point, Problem, with_rank, point_at}
use Rattle.cayley.specs.Files.{FilePoint}
use Rattle.cayley.specs.Stored.{held}
use Rattle.cayley.specs.Paths.{corners, least_coordinates}
use Rattle.cayley.specs.Valid.{IsCoordinate, file_count_at, support_at}

-- file points of one dimension, at least one, with coordinates within their limits
abbrev pub ArePoints : ℕ → List FilePoint → Type 0
ArePoints n points = (1 ≤ length points) × Each points (λ x. (length x.coordinates ≡ n) × Each x.coordinates IsCoordinate)

-- n supports of file points, and for each of them n - 1 start heights
pub record ArePathParts (supports : List (List FilePoint)) (starts : List (List ℤ)) : Type 0 where
  pub dimension : length supports ≤ 16
  pub count : length starts ≡ length supports
  pub heights : Each starts (λ s. suc (length s) ≡ length supports)
  pub points : Each supports (λ s. (length s ≤ 1000) × ArePoints (length supports) s)

-- the file points of support i of a problem, as a file has them
abbrev pub points_at : Problem → ℕ → List FilePoint
points_at p i = map held (take (file_count_at p i) (support_at p i))

-- the first corner of support i
abbrev pub first_corner_at : Problem → ℕ → Point
first_corner_at p i = point_at (support_at p i) (suc (file_count_at p i))

-- the corner of direction k of support i, where k counts from 0
abbrev pub direction_corner_at : Problem → ℕ → ℕ → Point
direction_corner_at p i k = point_at (support_at p i) (suc (file_count_at p i + suc k))

-- a first corner: at the least coordinates, with the height 0
abbrev pub IsFirstOf : List FilePoint → Point → Type 0
IsFirstOf points x = (x.coordinates ≡ least_coordinates points) × (x.base ≡ pos 0)

-- the corner m + d e_k; its start height is 0 for the own direction, and at least 1 for another
abbrev pub IsDirectionOf : List ℤ → ℤ → ℕ → ℕ → Point → Type 0
IsDirectionOf m d own k x = (x.coordinates ≡ add m (at_place k d)) × (k ≡ own → x.base ≡ pos 0) × (k ≢ own → pos 1 ≤ℤ x.base)

-- behind f file points stand the corners of a path, with some start heights of at least 1
abbrev pub HasPathCorners : ℕ → ℕ → ℕ → List Point → Type 0
HasPathCorners n i f s = (starts : List ℤ) × (length starts ≡ n - 1) × Each starts (λ z. pos 1 ≤ℤ z)
    × (map (with_rank 0) (drop f s) ≡ corners i (map held (take f s)) starts)
