-- Which cells a listing can hold, and what it means.
use Rattle.std.specs.Prelude.{◌≡◌, ◌-◌, ◌^◌, ◌<◌, ◌≤◌, ℕ, List, [], ◌∷◌, length, map, ℤ, pos, neg_ℤ, ◌≤ℤ◌, ◌<ℤ◌, Ok}
use Rattle.int_vectors.specs.Vectors.{Each}
use Rattle.cayley.specs.Cells.{Cell, IsOf}
use Rattle.cayley.specs.Files.{File, plain_problem}
use Rattle.cayley.specs.declared.found.FoundCell.{FoundCell}
use Rattle.listing_text.specs.declared.listing.ListedCell.{ListedCell}
use Rattle.listing_text.specs.ListingText.{listing_of}

-- a pair of positions for each support, where the supports have so many file points
abbrev pub IsCellOf : List ℕ → Cell → Type 0
IsCellOf [] [] = Unit {0}
IsCellOf [] (pair ∷ cell) = ⊥
IsCellOf (m ∷ counts) [] = ⊥
IsCellOf (m ∷ counts) (pair ∷ cell) = (1 ≤ pair.0) × (pair.0 < pair.1) × (pair.1 ≤ m) × IsCellOf counts cell

-- the number is from -(2^127 - 1) to 2^127 - 1
abbrev pub IsEntry : ℤ → Type 0
IsEntry z = (neg_ℤ (pos (2 ^ 127 - 1)) ≤ℤ z) × (z ≤ℤ pos (2 ^ 127 - 1))

-- a cell of file points with as many numbers over a denominator of at least 1
pub record IsFormed (counts : List ℕ) (x : FoundCell) : Type 0 where
  pub cell : IsCellOf counts x.cell
  pub size : length x.normal.v ≡ length counts
  pub entries : Each x.normal.v IsEntry
  pub den : (pos 1 ≤ℤ x.normal.den) × (x.normal.den ≤ℤ pos (2 ^ 127 - 1))

-- a listed cell without the number of its line
abbrev pub found_of : ListedCell → FoundCell
found_of y = record { cell = y.cell; normal = y.normal }

-- the bytes are a listing of the file and these cells, each with the number of some line
abbrev pub MeansListing : List ℕ → File → List FoundCell → Type 0
MeansListing bytes file found = (listed : List ListedCell) × (listing_of bytes ≡ Ok (file, listed)) × (map found_of listed ≡ found)

-- the listed cell is of the problem of the file's points, with as many numbers as the dimension over a positive denominator
abbrev pub IsOfFile : File → ListedCell → Type 0
IsOfFile file x = IsOf (plain_problem file) x.cell × (length x.normal.v ≡ file.dimension) × (pos 0 <ℤ x.normal.den)
