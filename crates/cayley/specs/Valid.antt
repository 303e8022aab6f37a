-- What the types of cells, files and problems keep.
use Rattle.std.specs.Prelude.{◌≡◌, ◌≢◌, ◌⊎◌, ℕ, ◌<◌, ◌≤◌, ◌-◌, List, [], MatchOption, length, map, take, drop, ℤ, pos, ◌+ℤ◌, ◌≤ℤ◌, unsigned_abs, slice_index_or}
use Rattle.int_vectors.specs.Vectors.{Each}
use Rattle.cayley.specs.declared.limits.TheConstants.{DIMENSIONS, POINTS, COORDINATE, HEIGHT, CORNER}
use Rattle.cayley.specs.Cells.{Cell, IsCell}
use Rattle.cayley.specs.Files.{FilePoint, File}
use Rattle.cayley.specs.Problems.{version1, Point, Problem, IsProblem, EachSupport, HasNoCorners, HasCorners, IsStill, HasRanks}

-- one to sixteen pairs, each of which rises
abbrev pub IsValidCell : Cell → Type 0
IsValidCell cell = (1 ≤ length cell) × (length cell ≤ DIMENSIONS) × IsCell cell

-- the least and the greatest coordinate of a file point are -1,000,000 and 1,000,000
abbrev pub IsCoordinate : ℤ → Type 0
IsCoordinate z = unsigned_abs z ≤ COORDINATE

-- a height is from -1,000,000,000 to 1,000,000,000
abbrev pub IsHeight : ℤ → Type 0
IsHeight z = unsigned_abs z ≤ HEIGHT

-- a start height is from 1 to 1,000,000,000
abbrev pub IsStart : ℤ → Type 0
IsStart z = (pos 1 ≤ℤ z) × (z ≤ℤ pos HEIGHT)

-- a coordinate of a corner is from -33,000,000 to 33,000,000
abbrev pub IsCornerCoordinate : ℤ → Type 0
IsCornerCoordinate z = unsigned_abs z ≤ CORNER

-- a base of a corner is from 0 to 1,000,000,000
abbrev pub IsCornerBase : ℤ → Type 0
IsCornerBase z = (pos 0 ≤ℤ z) × (z ≤ℤ pos HEIGHT)

-- no two of the lists are equal
abbrev pub AreDistinct : List (List ℤ) → Type 0
AreDistinct lists = (k l : ℕ) → k < l → l < length lists → slice_index_or lists k [] ≢ slice_index_or lists l []

-- the numbers of a file point are within their limits
abbrev pub IsWithinFile : FilePoint → Type 0
IsWithinFile x = Each x.coordinates IsCoordinate × IsHeight x.height

-- dimension, counts and lengths of a file's lists
pub record HasFileShape (file : File) : Type 0 where
  pub dimension : (1 ≤ file.dimension) × (file.dimension ≤ DIMENSIONS)
  pub supports : length file.supports ≡ file.dimension
  pub counts : Each file.supports (λ s. (1 ≤ length s) × (length s ≤ POINTS))
  pub points : Each file.supports (λ s. Each s (λ (x : FilePoint). length x.coordinates ≡ file.dimension))
  pub starts : MatchOption file.starts (Unit {0}) (λ starts. (length starts ≡ file.dimension) × Each starts (λ s. length s ≡ file.dimension - 1))

-- what a lift file keeps
pub record IsValidFile (file : File) : Type 0 where
  pub shape : HasFileShape file
  pub limits : Each file.supports (λ s. Each s IsWithinFile)
  pub distinct : Each file.supports (λ s. AreDistinct (map (λ (x : FilePoint). x.coordinates) s))
  pub starts : MatchOption file.starts (Unit {0}) (λ starts. Each starts (λ s. Each s IsStart))

-- the coordinates of a file point of a problem and its heights at the times 0 and 1 are within their limits
abbrev pub IsWithinProblem : Point → Type 0
IsWithinProblem x = Each x.coordinates IsCoordinate × IsHeight x.base × IsHeight (x.base +ℤ x.speed)

-- the numbers of a corner are within their limits
abbrev pub IsWithinCorners : Point → Type 0
IsWithinCorners x = Each x.coordinates IsCornerCoordinate × IsCornerBase x.base

-- every corner has speed 1
abbrev pub IsMoving : Problem → Type 0
IsMoving p = EachSupport 1 p.files p.supports (λ i f s. Each (drop f s) (λ (x : Point). x.speed ≡ pos 1))

-- a still problem whose points have the ranks of its version and whose corners rise with speed 1
pub record IsStillProblem (p : Problem) : Type 0 where
  pub problem : IsProblem p
  pub ranks : HasRanks p
  pub still : IsStill p
  pub corners : IsMoving p

-- dimension, counts, lengths and speeds of a problem; file points move only in version 1 and without corners
pub record HasProblemShape (p : Problem) : Type 0 where
  pub dimension : (1 ≤ p.dimension) × (p.dimension ≤ DIMENSIONS)
  pub problem : IsProblem p
  pub counts : Each p.files (λ f. (1 ≤ f) × (f ≤ POINTS))
  pub corners : HasCorners p
  pub still : IsStill p ⊎ ((p.version ≡ version1) × HasNoCorners p)
  pub moving : IsMoving p

-- what a problem keeps
pub record IsValidProblem (p : Problem) : Type 0 where
  pub ranks : HasRanks p
  pub shape : HasProblemShape p
  pub limits : EachSupport 1 p.files p.supports (λ i f s. Each (take f s) IsWithinProblem × Each (drop f s) IsWithinCorners)
  pub distinct : EachSupport 1 p.files p.supports (λ i f s. AreDistinct (map (λ (x : Point). x.coordinates) (take f s)))

-- the points of support i, which counts from 1
abbrev pub support_at : Problem → ℕ → List Point
support_at p i = slice_index_or p.supports (i - 1) []

-- how many file points stand first in support i
abbrev pub file_count_at : Problem → ℕ → ℕ
file_count_at p i = slice_index_or p.files (i - 1) 0
