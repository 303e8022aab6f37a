-- Small files, on whose paths no working is too great.
use Rattle.std.specs.Prelude.{ℕ, ◌≤◌, List, MatchOption, ◌-ℤ◌, unsigned_abs}
use Rattle.int_vectors.specs.Vectors.{Each, at}
use Rattle.cayley.specs.Files.{FilePoint, File}
use Rattle.cayley.specs.Paths.{path}
use Rattle.cayley.specs.Cells.{Cell, IsOf}
use Rattle.cayley.specs.Valid.{IsValidFile}
use Rattle.cell_bound.specs.Ranges.{FitsWhole}

-- any two points differ by at most 6 in each place
abbrev pub IsNarrow : List FilePoint → Type 0
IsNarrow s = Each s (λ x. Each s (λ y. (k : ℕ) → unsigned_abs (at x.coordinates k -ℤ at y.coordinates k) ≤ 6))

-- dimension at most 3, narrow supports, heights from -1,000 to 1,000, start heights of at most 1,000
pub record IsQuiet (file : File) : Type 0 where
  pub dimension : file.dimension ≤ 3
  pub narrow : Each file.supports IsNarrow
  pub heights : Each file.supports (λ s. Each s (λ x. unsigned_abs x.height ≤ 1000))
  pub starts : MatchOption file.starts (Unit {0}) (λ starts. Each starts (λ s. Each s (λ z. unsigned_abs z ≤ 1000)))

-- the whole working of every cell of the path fits
abbrev pub QuietLaw : Type 0
QuietLaw = (file : File) → IsValidFile file → IsQuiet file → (cell : Cell) → IsOf (path file) cell → FitsWhole (path file) cell
