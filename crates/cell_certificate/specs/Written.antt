-- What a listing says that is right, and a listing as a lister writes it.
use Rattle.std.specs.Prelude.{◌≡◌, ℕ, List, None, Ok, Err, length, map, ℤ, pos, ◌<ℤ◌}
use Rattle.int_vectors.specs.Vectors.{Each}
use Rattle.reduced_rows.specs.Denominators.{lcm_from, shares}
use Rattle.reduced_rows.specs.Steps.{elimination, FitsElimination}
use Rattle.cayley.specs.Problems.{version2, Problem}
use Rattle.cayley.specs.Files.{plain_problem}
use Rattle.cayley.specs.Rows.{edge_rows}
use Rattle.cayley.specs.Cells.{Cell, IsOf, IsSorted}
use Rattle.cayley.specs.Dependencies.{IsFurtherAt}
use Rattle.cayley.specs.Mixed.{IsMixedCell, IsLowestNormal}
use Rattle.inner_normal.specs.Coefficients.{FitsCircuit}
use Rattle.listing_text.specs.declared.listing.Listing.{Listing}
use Rattle.listing_text.specs.declared.listing.ListedCell.{ListedCell}
use Rattle.cell_certificate.specs.Sums.{FitsOwn, FitsFurther}
use Rattle.cell_certificate.specs.Judgements.{FirstRefused}
use Rattle.cell_certificate.specs.Answers.{Answer}
use Rattle.cell_certificate.specs.declared.verdict.Verdict.TheVariants.{Yes, No}
use Rattle.cell_certificate.specs.declared.verdict.CheckFault.TheVariants.{Overflow, OutOfMemory}

-- one pair of file points for each support, and as many numbers over a denominator of at least 1
abbrev pub IsListed : Problem → ListedCell → Type 0
IsListed p x = IsOf p x.cell × (length x.normal.v ≡ p.dimension) × (pos 0 <ℤ x.normal.den)

abbrev pub AreListed : Listing → Type 0
AreListed listing = Each listing.cells.items (IsListed (plain_problem listing.file))

-- the listed cells are mixed cells, each once, in cell order, each with its normal in lowest terms
pub record AreMixed (listing : Listing) : Type 0 where
  pub sorted : IsSorted (map (λ (x : ListedCell). x.cell) listing.cells.items)
  pub cells : Each listing.cells.items (λ x. IsMixedCell (plain_problem listing.file) x.cell)
  pub normals : Each listing.cells.items (λ x. IsLowestNormal (plain_problem listing.file) x.cell x.normal.v x.normal.den)

-- the elimination of the cell fits, and so do the sums of its further points under the normal that it gives, and in version 2 their circuits
abbrev pub FitsWritten : Problem → Cell → Type 0
FitsWritten p cell = FitsElimination p.dimension (edge_rows p cell)
    × ((made : List (List ℤ)) → elimination p.dimension (edge_rows p cell) ≡ Ok made
    → FitsFurther p cell (shares p.dimension 0 (lcm_from 0 1 made) made) (pos (lcm_from 0 1 made))
    × (p.version ≡ version2 → (j c : ℕ) → IsFurtherAt p cell j c → FitsCircuit p cell j c made))

-- a listing that a lister wrote: it refuses a cell whose working doesn't fit
pub record IsWritten (listing : Listing) : Type 0 where
  pub mixed : AreMixed listing
  pub workings : Each listing.cells.items (λ x. FitsWritten (plain_problem listing.file) x.cell)

-- the first line that doesn't pass has this number, and the sum of a pair's own second point that doesn't fit
abbrev pub IsOwnTooLarge : Listing → ℕ → Type 0
IsOwnTooLarge listing number = FirstRefused (plain_problem listing.file) None listing.cells.items
    (λ before x. (x.line ≡ number) × ¬ (FitsOwn (plain_problem listing.file) x.cell x.normal.v x.normal.den))

-- never No, and Overflow only for the sum of a pair's own second point
abbrev pub SparesWritten : Listing → Answer → Type 0
SparesWritten listing (Ok Yes) = Unit {0}
SparesWritten listing (Ok (No number reason)) = ⊥
SparesWritten listing (Err (Overflow number)) = IsOwnTooLarge listing number
SparesWritten listing (Err OutOfMemory) = Unit {0}
