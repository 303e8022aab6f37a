-- How a run ends, and what stands in the source and the sink then.
use Rattle.std.specs.Prelude.{◌≡◌, ◌⊎◌, ◌+◌, ◌<◌, ◌≤◌, ℕ, List, length, map, take, Option, Some, None, Ok, IsTrue}
use Rattle.std.specs.Io.KnownBytes.{Appends, Consumes}
use Rattle.edge_io.specs.Faults.{Rose}
use Rattle.cayley.specs.Files.{File, plain_problem}
use Rattle.int_vectors.specs.Vectors.{Each}
use Rattle.cayley.specs.Cells.{Cell, IsSorted}
use Rattle.cayley.specs.Mixed.{IsMixedCell, IsLowestNormal}
use Rattle.cayley.specs.declared.found.FoundCell.{FoundCell}
use Rattle.cayley.specs.declared.found.TieProof.{TieProof}
use Rattle.support_text.specs.ProblemText.{problem_of}
use Rattle.listing_text.specs.declared.listing.Listing.{Listing}
use Rattle.listing_text.specs.Writing.{listing_text}
use Rattle.cell_certificate.specs.Written.{IsOwnTooLarge}
use Rattle.cone_walls.specs.Workings.{FitsWallWorking}
use Rattle.path_log.specs.declared.log.PathLog.{PathLog}
use Rattle.log_check.specs.Verdicts.{IsTooLargeLog}
use Rattle.mixedcells.specs.declared.words.Command.{Command}
use Rattle.mixedcells.specs.declared.words.Command.TheVariants as verb
use Rattle.mixedcells.specs.declared.outcome.Outcome.{Outcome}
use Rattle.mixedcells.specs.declared.outcome.Outcome.TheVariants as variant
use Rattle.mixedcells.specs.Words.{Means, HasMeaning, IsWalking, reads}
use Rattle.mixedcells.specs.Outcomes.{usage_line, too_long_line}
use Rattle.mixedcells.specs.Logs.{IsLogText}
use Rattle.mixedcells.specs.Answers.{limit, IsListingText, IsReply}

-- the input is longer than a command reads
abbrev pub IsTooLong : Command → List ℕ → Type 0
IsTooLong command bytes = IsTrue (reads command) × (limit < length bytes)

-- what a command answers on its whole input, and what it writes for that: the input is too long, or the command replies
abbrev pub IsAnswer : Command → List ℕ → Outcome → List ℕ → Type 0
IsAnswer command bytes outcome text =
    (IsTooLong command bytes × (outcome ≡ variant.TooLong) × (text ≡ too_long_line))
    ⊎ ((IsTrue (reads command) → length bytes ≤ limit) × IsReply command bytes outcome text)

-- the bytes are those that a source has left, where it tells them
abbrev pub IsInput : Option (List ℕ) → List ℕ → Type 0
IsInput None bytes = Unit {0}
IsInput (Some left) bytes = left ≡ bytes

-- what the words and the input call for: usage, or the answer of a command
abbrev pub IsCalledFor : List (List ℕ) → Option (List ℕ) → Outcome → List ℕ → Type 0
IsCalledFor words left outcome text =
    (¬ (HasMeaning words) × (outcome ≡ variant.Usage) × (text ≡ usage_line))
    ⊎ ((command : Command) × (bytes : List ℕ) × Means words command × IsInput left bytes × IsAnswer command bytes outcome text)

-- a part of what was called for was written, and the sink's faults rose
abbrev pub IsCutOff : (Outcome → List ℕ → Type 0) → Option (List ℕ) → Option (List ℕ) → ℕ → ℕ → Type 0
IsCutOff IsRight old new before now = Rose before now
    × ((outcome : Outcome) × (text : List ℕ) × IsRight outcome text × ((n : ℕ) × (n ≤ length text) × Appends old new (take n text)))

-- the answers that tell of the ends or of the memory, and so may come in place of any other
abbrev pub IsFree : Outcome → Type 0
IsFree outcome = (outcome ≡ variant.ReadFault) ⊎ (outcome ≡ variant.WriteFault) ⊎ (outcome ≡ variant.OutOfMemory)

-- how a walk along a path, or a move, ends: with its list, or at a tie or a cell that doesn't fit
abbrev pub IsWalkEnd : Outcome → Type 0
IsWalkEnd outcome = (outcome ≡ variant.Ok) ⊎ ((proof : TieProof) × (outcome ≡ variant.Tie proof)) ⊎ ((cell : Cell) × (outcome ≡ variant.OverflowCell cell))

-- both are ties of one cell
abbrev pub AreTiesOfOne : Outcome → Outcome → Type 0
AreTiesOfOne outcome other = (proof : TieProof) × (second : TieProof) × (outcome ≡ variant.Tie proof) × (other ≡ variant.Tie second) × (proof.cell ≡ second.cell)

-- of these the words and the bytes don't tell which one comes: the ends of a walk or of a move, and of `generic` the tie that is named for one cell, however its time is written
abbrev pub AreLoose : List (List ℕ) → Outcome → Outcome → Type 0
AreLoose words outcome other = (IsWalking words × IsWalkEnd outcome × IsWalkEnd other) ⊎ (Means words verb.Generic × AreTiesOfOne outcome other)
    ⊎ (Means words verb.Move × IsWalkEnd outcome × IsWalkEnd other)

-- the outcome came and its text was written, or the sink failed and a part of the text was
abbrev pub Finishes : Option (List ℕ) → Option (List ℕ) → ℕ → ℕ → List ℕ → Outcome → Outcome → Type 0
Finishes old new before now text outcome result =
    ((result ≡ outcome) × Appends old new text)
    ⊎ ((result ≡ variant.WriteFault) × Rose before now × ((n : ℕ) × (n ≤ length text) × Appends old new (take n text)))

-- every line of a listing passes, or one is refused for a reason
abbrev pub IsVerdict : Outcome → Type 0
IsVerdict outcome = (outcome ≡ variant.Ok) ⊎ ((line : ℕ) × (reason : ℕ) × (outcome ≡ variant.No line reason))

-- mixed cells of the file's points, each once, in cell order, each with its normal in lowest terms and a working that fits
pub record AreWrittenCells (file : File) (found : List FoundCell) : Type 0 where
  pub sorted : IsSorted (map (λ (x : FoundCell). x.cell) found)
  pub cells : Each found (λ (x : FoundCell). IsMixedCell (plain_problem file) x.cell)
  pub normals : Each found (λ (x : FoundCell). IsLowestNormal (plain_problem file) x.cell x.normal.v x.normal.den)
  pub workings : Each found (λ (x : FoundCell). FitsWallWorking (plain_problem file) x.cell)

-- the bytes are the text of a file that was read with such cells, as `plain` and `list` write it
abbrev pub IsWrittenListing : File → List ℕ → Type 0
IsWrittenListing file bytes = (input : List ℕ) × (found : List FoundCell)
    × (problem_of input ≡ Ok file) × AreWrittenCells file found × (bytes ≡ listing_text file found)

-- every line passes, or the sum of a pair's own second point doesn't fit, or the listing is longer than what is read
abbrev pub IsSpared : List ℕ → Outcome → Type 0
IsSpared bytes outcome = (outcome ≡ variant.Ok)
    ⊎ ((listing : Listing) × (line : ℕ) × IsListingText bytes listing × IsOwnTooLarge listing line × (outcome ≡ variant.OverflowLine line))
    ⊎ ((limit < length bytes) × (outcome ≡ variant.TooLong))

-- every line passes, or the listing is longer than what is read
abbrev pub Passes : List ℕ → Outcome → Type 0
Passes bytes outcome = (outcome ≡ variant.Ok) ⊎ ((limit < length bytes) × (outcome ≡ variant.TooLong))

-- the log passes, or a number that it asks for doesn't fit, or it is longer than what is read; it is never refused for a reason
abbrev pub IsSparedLog : List ℕ → Outcome → Type 0
IsSparedLog bytes outcome = (outcome ≡ variant.Ok)
    ⊎ ((log : PathLog) × (line : ℕ) × IsLogText bytes log × IsTooLargeLog log line × (outcome ≡ variant.OverflowLine line))
    ⊎ ((limit < length bytes) × (outcome ≡ variant.TooLong))

-- how many bytes of the source were taken: at most the limit and one more; exactly that where the input is too long, and at most the limit where a read failed
pub record TakesNoMore (old new : Option (List ℕ)) (outcome : Outcome) : Type 0 where
  pub bytes : List ℕ
  pub taken : Consumes old new bytes
  pub bound : length bytes ≤ limit + 1
  pub too_long : outcome ≡ variant.TooLong → length bytes ≡ limit + 1
  pub read_fault : outcome ≡ variant.ReadFault → length bytes ≤ limit
