-- What `move` says of a listing and second heights.
use Rattle.std.specs.Prelude.{◌≡◌, ◌⊎◌, ℕ, List, map, ℤ}
use Rattle.int_vectors.specs.Vectors.{Each}
use Rattle.cayley.specs.declared.found.FoundCell.{FoundCell}
use Rattle.cayley.specs.declared.found.TieProof.{TieProof}
use Rattle.cayley.specs.Problems.{Problem}
use Rattle.cayley.specs.Files.{File, plain_problem, between_problem}
use Rattle.cayley.specs.Cells.{Cell, IsListOf}
use Rattle.cayley.specs.Mixed.{IsMixedCell, IsLowestNormal}
use Rattle.searcher.specs.Passes.{IsReached, IsLedBy, IsTieOnTheWay}
use Rattle.searcher.specs.Workings.{FitsWorking}
use Rattle.listing_text.specs.declared.listing.Listing.{Listing}
use Rattle.listing_text.specs.declared.listing.ListedCell.{ListedCell}
use Rattle.listing_text.specs.Writing.{listing_text}
use Rattle.cell_certificate.specs.Answers.{IsRight, IsWrong, IsTooLarge}
use Rattle.lift_move.specs.Segments.{IsGeneric, second_of}
use Rattle.lift_move.specs.Moves.{IsUnfitAtEnd, FitAllOnTheWay}
use Rattle.mixedcells.specs.declared.outcome.Outcome.{Outcome}
use Rattle.mixedcells.specs.declared.outcome.Outcome.TheVariants as variant
use Rattle.mixedcells.specs.Outcomes.{no_line, overflow_line, overflow_cell, IsTieLine}

-- the segment from the lift of the listing's file to the second heights
abbrev pub segment_of : Listing → List (List ℤ) → Problem
segment_of listing second = between_problem listing.file second

-- the listing's file with the second heights
abbrev pub target_of : Listing → List (List ℤ) → File
target_of listing second = second_of listing.file second

-- the cells of the listing
abbrev pub listed_cells : Listing → List Cell
listed_cells listing = map (λ (x : ListedCell). x.cell) listing.cells.items

-- exactly the cells to which the listed ones lead along the segment, each once, in cell order: mixed cells of the second lift, with their normals in lowest terms
pub record AreMovedCells (listing : Listing) (second : List (List ℤ)) (found : List FoundCell) : Type 0 where
  pub cells : IsListOf (IsReached (segment_of listing second) (listed_cells listing)) (map (λ (x : FoundCell). x.cell) found)
  pub mixed : Each found (λ (x : FoundCell). IsMixedCell (plain_problem (target_of listing second)) x.cell)
  pub normals : Each found (λ (x : FoundCell). IsLowestNormal (plain_problem (target_of listing second)) x.cell x.normal.v x.normal.den)

-- the bytes are the text of the file with the second heights and these cells
abbrev pub IsMovedListing : Listing → List (List ℤ) → List ℕ → Type 0
IsMovedListing listing second text = (found : List FoundCell) × AreMovedCells listing second found × (text ≡ listing_text (target_of listing second) found)

-- a tie at an end of a cell, after time 0 and at most at time 1; its chain has a listed cell in it
abbrev pub IsMoveTie : Listing → List (List ℤ) → TieProof → Type 0
IsMoveTie listing second proof = IsTieOnTheWay (segment_of listing second) proof × IsLedBy (segment_of listing second) (listed_cells listing) proof.cell

-- a cell whose chain has a listed cell in it, and whose working in the segment doesn't fit; or it is reached, and its normal over the second lift doesn't fit
abbrev pub IsMoveUnfit : Listing → List (List ℤ) → Cell → Type 0
IsMoveUnfit listing second cell = IsLedBy (segment_of listing second) (listed_cells listing) cell
    × (¬ (FitsWorking (segment_of listing second) cell) ⊎ IsUnfitAtEnd (segment_of listing second) (plain_problem (target_of listing second)) (listed_cells listing) cell)

-- what is said of a listing and second heights: the answer of `check` where a line doesn't pass, else what its cells lead to, or why that isn't told
abbrev pub IsMovedReply : Listing → List (List ℤ) → Outcome → List ℕ → Type 0
IsMovedReply listing second variant.Ok text = IsRight listing × IsMovedListing listing second text
IsMovedReply listing second (variant.No line reason) text = (text ≡ no_line line reason) × IsWrong listing line reason
IsMovedReply listing second (variant.OverflowLine line) text = (text ≡ overflow_line line) × IsTooLarge listing line
IsMovedReply listing second (variant.Tie proof) text = IsTieLine proof text × IsRight listing × IsMoveTie listing second proof
IsMovedReply listing second (variant.OverflowCell cell) text = (text ≡ overflow_cell cell) × IsRight listing × IsMoveUnfit listing second cell
IsMovedReply listing second variant.Usage text = ⊥
IsMovedReply listing second (variant.Format line kind) text = ⊥
IsMovedReply listing second variant.ReadFault text = ⊥
IsMovedReply listing second variant.WriteFault text = ⊥
IsMovedReply listing second variant.OutOfMemory text = ⊥
IsMovedReply listing second variant.TooLong text = ⊥
IsMovedReply listing second (variant.TooMany choices) text = ⊥
IsMovedReply listing second variant.NeedsTeam text = ⊥

-- the listing has all mixed cells of its file, each once, in cell order
abbrev pub IsFull : Listing → Type 0
IsFull listing = IsListOf (IsMixedCell (plain_problem listing.file)) (listed_cells listing)

-- the segment is generic
abbrev pub IsGenericMove : Listing → List (List ℤ) → Type 0
IsGenericMove listing second = IsGeneric (segment_of listing second)

-- the workings of all cells on the way fit, and the normals of those that are reached
abbrev pub MoveFits : Listing → List (List ℤ) → Type 0
MoveFits listing second = FitAllOnTheWay (segment_of listing second) (plain_problem (target_of listing second)) (listed_cells listing)
