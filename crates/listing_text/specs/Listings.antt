-- The listing of a file: its text with exactly the mixed cells of the target.
use Rattle.std.specs.Prelude.{◌≡◌, ℕ, List, map}
use Rattle.int_vectors.specs.Vectors.{Each}
use Rattle.cayley.specs.Files.{File, plain_problem}
use Rattle.cayley.specs.Cells.{IsListOf}
use Rattle.cayley.specs.declared.found.FoundCell.{FoundCell}
use Rattle.cayley.specs.Mixed.{IsMixedCell, IsLowestNormal}
use Rattle.listing_text.specs.Writing.{listing_text}

-- exactly the mixed cells of the file's points, each once, in cell order, each with its normal in lowest terms
pub record AreMixedCells (file : File) (found : List FoundCell) : Type 0 where
  pub cells : IsListOf (IsMixedCell (plain_problem file)) (map (λ (x : FoundCell). x.cell) found)
  pub normals : Each found (λ (x : FoundCell). IsLowestNormal (plain_problem file) x.cell x.normal.v x.normal.den)

-- the bytes are the listing of the file
abbrev pub IsListingOf : File → List ℕ → Type 0
IsListingOf file bytes = (found : List FoundCell) × AreMixedCells file found × (bytes ≡ listing_text file found)
