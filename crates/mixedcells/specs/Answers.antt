-- What a command answers on the bytes of its input, and what it writes for that.
use Rattle.std.specs.Prelude.{◌≡◌, ◌⊎◌, ℕ, ℤ, List, [], Ok, Err, IsTrue, false, nat_le}
use Rattle.cayley.specs.Files.{File, plain_problem}
use Rattle.support_text.specs.declared.fault.FormatFault.{FormatFault}
use Rattle.support_text.specs.ProblemText.{problem_of}
use Rattle.support_text.specs.Writing.{problem_text}
use Rattle.listing_text.specs.declared.listing.Listing.{Listing}
use Rattle.listing_text.specs.ListingText.{listing_of}
use Rattle.listing_text.specs.Listings.{IsListingOf}
use Rattle.cell_certificate.specs.Answers.{IsRight, IsWrong, IsTooLarge}
use Rattle.poly_text.specs.SystemText.{PointSystem, system_of}
use Rattle.homotopy_rows.specs.Answers.{IsPowersText}
use Rattle.homotopy_rows.specs.Flat.{FirstFlat}
use Rattle.lift_move.specs.MoveText.{move_of}
use Rattle.path_log.specs.declared.log.PathLog.{PathLog}
use Rattle.path_log.specs.LogText.{log_of}
use Rattle.plain_lister.specs.Choices.{HasTooMany, IsExcess}
use Rattle.plain_lister.specs.Lists.{AllFit, IsFirstUnfit}
use Rattle.mixedcells.specs.declared.words.meaning.Family.{Family}
use Rattle.mixedcells.specs.declared.words.Command.{Command}
use Rattle.mixedcells.specs.declared.words.Command.TheVariants as verb
use Rattle.mixedcells.specs.declared.outcome.Outcome.{Outcome}
use Rattle.mixedcells.specs.declared.outcome.Outcome.TheVariants as variant
use Rattle.mixedcells.specs.Families.{family_file, lifted_text}
use Rattle.mixedcells.specs.Walks.{IsReachedListing, IsReachedSum, IsWalkReply, IsTieReply}
use Rattle.mixedcells.specs.Judging.{IsJudgedAs}
use Rattle.mixedcells.specs.Moving.{IsMovedReply}
use Rattle.mixedcells.specs.Logs.{IsTracedText, IsLogText, IsJudgedLog}
use Rattle.mixedcells.specs.Outcomes.{yes_line, format_line, no_line, overflow_line, too_many_line, overflow_cell}

-- the longest input that is read
abbrev pub limit : ℕ
limit = 16777216

-- what is said of a file's points: their listing, too many choices, or the least choice whose working doesn't fit
abbrev pub IsListReply : File → Outcome → List ℕ → Type 0
IsListReply file variant.Ok text = ¬ (HasTooMany (plain_problem file)) × AllFit (plain_problem file) × IsListingOf file text
IsListReply file (variant.TooMany choices) text = (text ≡ too_many_line choices) × HasTooMany (plain_problem file) × IsExcess (plain_problem file) choices
IsListReply file (variant.OverflowCell cell) text = (text ≡ overflow_cell cell) × ¬ (HasTooMany (plain_problem file)) × IsFirstUnfit (plain_problem file) cell
IsListReply file (variant.No line reason) text = ⊥
IsListReply file variant.Usage text = ⊥
IsListReply file (variant.Format line kind) text = ⊥
IsListReply file (variant.OverflowLine line) text = ⊥
IsListReply file variant.ReadFault text = ⊥
IsListReply file variant.WriteFault text = ⊥
IsListReply file variant.OutOfMemory text = ⊥
IsListReply file variant.TooLong text = ⊥
IsListReply file (variant.Tie proof) text = ⊥
IsListReply file variant.NeedsTeam text = ⊥

-- the first fault of the input's format is told
abbrev pub TellsFault : FormatFault → Outcome → List ℕ → Type 0
TellsFault fault outcome text = (outcome ≡ variant.Format fault.line fault.kind) × (text ≡ format_line fault.line fault.kind)

-- what is said of the file that the bytes mean, or their first fault
abbrev pub IsFileReply : (File → Outcome → List ℕ → Type 0) → List ℕ → Outcome → List ℕ → Type 0
IsFileReply IsSaid bytes outcome text =
    ((file : File) × (problem_of bytes ≡ Ok file) × IsSaid file outcome text)
    ⊎ ((fault : FormatFault) × (problem_of bytes ≡ Err fault) × TellsFault fault outcome text)

-- what `plain` replies
abbrev pub IsPlainReply : List ℕ → Outcome → List ℕ → Type 0
IsPlainReply = IsFileReply IsListReply

-- what a walk replies by one searcher; for more a team is wanted, and nothing is written
abbrev pub IsAloneReply : ℕ → (File → List ℕ → Type 0) → List ℕ → Outcome → List ℕ → Type 0
IsAloneReply searchers IsWritten bytes outcome text =
    ((nat_le 2 searchers ≡ false) × IsFileReply (IsWalkReply IsWritten) bytes outcome text)
    ⊎ (IsTrue (nat_le 2 searchers) × (outcome ≡ variant.NeedsTeam) × (text ≡ []))

-- what `generic` replies
abbrev pub IsGenericReply : List ℕ → Outcome → List ℕ → Type 0
IsGenericReply = IsFileReply IsTieReply

-- what is said of a listing: every line passes, or the first that doesn't, with the reason or for a number that doesn't fit
abbrev pub IsVerdictReply : Listing → Outcome → List ℕ → Type 0
IsVerdictReply listing = IsJudgedAs (IsRight listing) (IsWrong listing) (IsTooLarge listing)

-- the bytes mean this listing
abbrev pub IsListingText : List ℕ → Listing → Type 0
IsListingText bytes listing = listing_of bytes ≡ Ok (listing.file, listing.cells.items)

-- what `check` replies: what is said of the listing that the bytes mean, or their first fault
abbrev pub IsCheckReply : List ℕ → Outcome → List ℕ → Type 0
IsCheckReply bytes outcome text =
    ((listing : Listing) × IsListingText bytes listing × IsVerdictReply listing outcome text)
    ⊎ ((fault : FormatFault) × (listing_of bytes ≡ Err fault) × TellsFault fault outcome text)

-- every line of the listing passes, and this is the first with a further point of the sum 0
abbrev pub IsFlatLine : Listing → ℕ → Type 0
IsFlatLine listing line = IsRight listing × FirstFlat (plain_problem listing.file) listing.cells.items line

-- no line of the listing has a further point of the sum 0
abbrev pub HasNoFlat : Listing → Type 0
HasNoFlat listing = (line : ℕ) → ¬ (FirstFlat (plain_problem listing.file) listing.cells.items line)

-- the powers of a listing's cells, where every line passes and none is flat; else the answer of `check`, or the first flat line with the reason 6
abbrev pub IsRowsReply : Listing → Outcome → List ℕ → Type 0
IsRowsReply listing variant.Ok text = IsRight listing × HasNoFlat listing × IsPowersText listing text
IsRowsReply listing (variant.No line reason) text = (text ≡ no_line line reason) × (IsWrong listing line reason ⊎ ((reason ≡ 6) × IsFlatLine listing line))
IsRowsReply listing (variant.OverflowLine line) text = (text ≡ overflow_line line) × IsTooLarge listing line
IsRowsReply listing variant.Usage text = ⊥
IsRowsReply listing (variant.Format line kind) text = ⊥
IsRowsReply listing (variant.OverflowCell cell) text = ⊥
IsRowsReply listing variant.ReadFault text = ⊥
IsRowsReply listing variant.WriteFault text = ⊥
IsRowsReply listing variant.OutOfMemory text = ⊥
IsRowsReply listing variant.TooLong text = ⊥
IsRowsReply listing (variant.TooMany choices) text = ⊥
IsRowsReply listing (variant.Tie proof) text = ⊥
IsRowsReply listing variant.NeedsTeam text = ⊥

-- what `powers` replies: what is said of the listing that the bytes mean, or their first fault
abbrev pub IsPowersReply : List ℕ → Outcome → List ℕ → Type 0
IsPowersReply bytes outcome text =
    ((listing : Listing) × IsListingText bytes listing × IsRowsReply listing outcome text)
    ⊎ ((fault : FormatFault) × (listing_of bytes ≡ Err fault) × TellsFault fault outcome text)

-- the bytes mean this listing and these second heights
abbrev pub IsMoveText : List ℕ → Listing → List (List ℤ) → Type 0
IsMoveText bytes listing second = move_of bytes ≡ Ok ((listing.file, listing.cells.items), second)

-- what `move` replies: what is said of the listing and the second heights that the bytes mean, or their first fault
abbrev pub IsMoveReply : List ℕ → Outcome → List ℕ → Type 0
IsMoveReply bytes outcome text =
    ((listing : Listing) × (second : List (List ℤ)) × IsMoveText bytes listing second × IsMovedReply listing second outcome text)
    ⊎ ((fault : FormatFault) × (move_of bytes ≡ Err fault) × TellsFault fault outcome text)

-- what `verify` replies: what is said of the log that the bytes mean, or their first fault
abbrev pub IsLogReply : List ℕ → Outcome → List ℕ → Type 0
IsLogReply bytes outcome text =
    ((log : PathLog) × IsLogText bytes log × IsJudgedLog log outcome text)
    ⊎ ((fault : FormatFault) × (log_of bytes ≡ Err fault) × TellsFault fault outcome text)

-- what `poly` replies: the canonical text of the file that lifts the system which the bytes mean, or their first fault
abbrev pub IsSystemReply : ℕ → List ℕ → Outcome → List ℕ → Type 0
IsSystemReply seed bytes outcome text =
    ((system : PointSystem) × (system_of bytes ≡ Ok system) × (outcome ≡ variant.Ok) × (text ≡ lifted_text seed system))
    ⊎ ((fault : FormatFault) × (system_of bytes ≡ Err fault) × TellsFault fault outcome text)

-- what `make` replies: the canonical text of the family's file
abbrev pub IsMadeReply : Family → ℕ → Outcome → List ℕ → Type 0
IsMadeReply family seed outcome text = (outcome ≡ variant.Ok) × (text ≡ problem_text (family_file family seed))

-- what a command replies on the bytes of its input; `make` replies the same on all
abbrev pub IsReply : Command → List ℕ → Outcome → List ℕ → Type 0
IsReply verb.Plain bytes outcome text = IsPlainReply bytes outcome text
IsReply (verb.List searchers) bytes outcome text = IsAloneReply searchers IsReachedListing bytes outcome text
IsReply (verb.Sum searchers) bytes outcome text = IsAloneReply searchers IsReachedSum bytes outcome text
IsReply verb.Generic bytes outcome text = IsGenericReply bytes outcome text
IsReply verb.Move bytes outcome text = IsMoveReply bytes outcome text
IsReply verb.Trace bytes outcome text = IsFileReply (IsWalkReply IsTracedText) bytes outcome text
IsReply verb.Verify bytes outcome text = IsLogReply bytes outcome text
IsReply verb.Check bytes outcome text = IsCheckReply bytes outcome text
IsReply verb.Powers bytes outcome text = IsPowersReply bytes outcome text
IsReply (verb.Poly seed) bytes outcome text = IsSystemReply seed bytes outcome text
IsReply (verb.Make family seed) bytes outcome text = IsMadeReply family seed outcome text
