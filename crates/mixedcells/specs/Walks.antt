-- What `list`, `sum` and `generic` say of a file.
use Rattle.std.specs.Prelude.{◌≡◌, ◌⊎◌, ℕ, ◌-◌, ◌^◌, min, List, length, map}
use Rattle.int_vectors.specs.Vectors.{Each}
use Rattle.lex_height.specs.Values as values
use Rattle.cayley.specs.declared.found.FoundCell.{FoundCell}
use Rattle.cayley.specs.declared.found.TieProof.{TieProof}
use Rattle.cayley.specs.Problems.{version1, version2}
use Rattle.cayley.specs.Files.{File, plain_problem}
use Rattle.cayley.specs.Paths.{path, start_cell}
use Rattle.cayley.specs.Cells.{Cell, IsListOf}
use Rattle.cayley.specs.Mixed.{IsMixedCell, IsLowestNormal}
use Rattle.cayley.specs.Parents.{IsInTree}
use Rattle.cayley.specs.Shares.{IsShare}
use Rattle.cayley.specs.Ties.{IsTieFree}
use Rattle.cayley.specs.TieProofs.{IsTieProofAtEnd}
use Rattle.start_system.specs.Started.{start_branch, IsTreeSize}
use Rattle.searcher.specs.Workings.{FitsWorking}
use Rattle.plain_lister.specs.Choices.{HasTooMany, IsExcess}
use Rattle.plain_lister.specs.Lists.{AllFit}
use Rattle.plain_lister.specs.LeastTies.{IsLeastTie, IsLeastTiedOrUnfit}
use Rattle.cone_walls.specs.Workings.{FitsWallWorking}
use Rattle.listing_text.specs.Writing.{listing_text}
use Rattle.mixedcells.specs.declared.outcome.Outcome.{Outcome}
use Rattle.mixedcells.specs.declared.outcome.Outcome.TheVariants as variant
use Rattle.mixedcells.specs.Outcomes.{tie_free_line, overflow_cell, too_many_line, sum_lines, IsTieLine}

-- the cell is of the path tree of the file
abbrev pub IsOfTree : File → Cell → Type 0
IsOfTree file cell = IsInTree (path file) (start_cell (path file)) cell

-- the working of each cell of the path tree fits
abbrev pub TreeFits : File → Type 0
TreeFits file = (cell : Cell) → IsOfTree file cell → FitsWorking (path file) cell

-- the heights are perturbed, or the path has no tie
abbrev pub IsSafe : File → Type 0
IsSafe file = (file.version ≡ version2) ⊎ IsTieFree (path file)

-- exactly the mixed cells whose chain begins with the start cell of the path, in cell order
abbrev pub AreReached : File → List Cell → Type 0
AreReached file cells = IsShare (path file) (start_branch (path file)) cells

-- the same cells, each with its normal in lowest terms and a working that fits
pub record AreReachedCells (file : File) (found : List FoundCell) : Type 0 where
  pub cells : AreReached file (map (λ (x : FoundCell). x.cell) found)
  pub normals : Each found (λ (x : FoundCell). IsLowestNormal (plain_problem file) x.cell x.normal.v x.normal.den)
  pub workings : Each found (λ (x : FoundCell). FitsWorking (path file) x.cell)

-- the bytes are the file's text with these cells
abbrev pub IsReachedListing : File → List ℕ → Type 0
IsReachedListing file text = (found : List FoundCell) × AreReachedCells file found × (text ≡ listing_text file found)

-- the greatest count
abbrev pub top_count : ℕ
top_count = 2 ^ 64 - 1

-- the number of those cells, and the size of the path tree, each or the greatest count, if that is less
abbrev pub IsReachedSum : File → List ℕ → Type 0
IsReachedSum file text = (cells : List Cell) × (tree : ℕ) × AreReached file cells × IsTreeSize (path file) tree × (text ≡ sum_lines (min (length cells) top_count) (min tree top_count))

-- the same of all mixed cells of the file's points
abbrev pub IsSumOf : File → List ℕ → Type 0
IsSumOf file text = (cells : List Cell) × (tree : ℕ) × IsListOf (IsMixedCell (plain_problem file)) cells × IsTreeSize (path file) tree × (text ≡ sum_lines (min (length cells) top_count) (min tree top_count))

-- a tie at an end of a cell of the path tree; there is none in version 2
abbrev pub IsTreeTie : File → TieProof → Type 0
IsTreeTie file proof = (file.version ≡ version1) × IsTieProofAtEnd (path file) proof × IsOfTree file proof.cell

-- a cell of the path tree whose working doesn't fit
abbrev pub IsTreeUnfit : File → Cell → Type 0
IsTreeUnfit file cell = IsOfTree file cell × ¬ (FitsWorking (path file) cell)

-- what is said of a file by a walk along its path that writes this at its end
abbrev pub IsWalkReply : (File → List ℕ → Type 0) → File → Outcome → List ℕ → Type 0
IsWalkReply IsWritten file variant.Ok text = IsWritten file text
IsWalkReply IsWritten file (variant.Tie proof) text = IsTieLine proof text × IsTreeTie file proof
IsWalkReply IsWritten file (variant.OverflowCell cell) text = (text ≡ overflow_cell cell) × IsTreeUnfit file cell
IsWalkReply IsWritten file (variant.No line reason) text = ⊥
IsWalkReply IsWritten file variant.Usage text = ⊥
IsWalkReply IsWritten file (variant.Format line kind) text = ⊥
IsWalkReply IsWritten file (variant.OverflowLine line) text = ⊥
IsWalkReply IsWritten file variant.ReadFault text = ⊥
IsWalkReply IsWritten file variant.WriteFault text = ⊥
IsWalkReply IsWritten file variant.OutOfMemory text = ⊥
IsWalkReply IsWritten file variant.TooLong text = ⊥
IsWalkReply IsWritten file (variant.TooMany choices) text = ⊥
IsWalkReply IsWritten file variant.NeedsTeam text = ⊥

-- what is said of a file over all points of its path: no tie, or the named tie of the least cell that has one or doesn't fit
abbrev pub IsTieReply : File → Outcome → List ℕ → Type 0
IsTieReply file variant.Ok text = (text ≡ tie_free_line) × ¬ (HasTooMany (path file)) × IsTieFree (path file) × AllFit (path file)
IsTieReply file (variant.Tie proof) text = IsTieLine proof text × ¬ (HasTooMany (path file)) × IsLeastTie (path file) proof × values.IsLowest proof.time
IsTieReply file (variant.TooMany choices) text = (text ≡ too_many_line choices) × HasTooMany (path file) × IsExcess (path file) choices
IsTieReply file (variant.OverflowCell cell) text = (text ≡ overflow_cell cell) × ¬ (HasTooMany (path file)) × IsLeastTiedOrUnfit (path file) cell × ¬ (FitsWallWorking (path file) cell)
IsTieReply file (variant.No line reason) text = ⊥
IsTieReply file variant.Usage text = ⊥
IsTieReply file (variant.Format line kind) text = ⊥
IsTieReply file (variant.OverflowLine line) text = ⊥
IsTieReply file variant.ReadFault text = ⊥
IsTieReply file variant.WriteFault text = ⊥
IsTieReply file variant.OutOfMemory text = ⊥
IsTieReply file variant.TooLong text = ⊥
IsTieReply file variant.NeedsTeam text = ⊥
