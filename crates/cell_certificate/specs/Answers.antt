-- What the answers of a check say of its listing.
use Rattle.std.specs.Prelude.{◌≡◌, ℕ, Option, None, Some, Result, Ok, Err}
use Rattle.cayley.specs.Problems.{Problem}
use Rattle.cayley.specs.Files.{plain_problem}
use Rattle.cayley.specs.Cells.{Cell}
use Rattle.listing_text.specs.declared.listing.Listing.{Listing}
use Rattle.listing_text.specs.declared.listing.ListedCell.{ListedCell}
use Rattle.cell_certificate.specs.declared.judgement.Judgement.{Judgement}
use Rattle.cell_certificate.specs.declared.judgement.Judgement.TheVariants.{Passes, Unfit, Order, Dependent, NotLevel, NotLeast, NotLowest}
use Rattle.cell_certificate.specs.declared.verdict.Verdict.{Verdict}
use Rattle.cell_certificate.specs.declared.verdict.Verdict.TheVariants.{Yes, No}
use Rattle.cell_certificate.specs.declared.verdict.CheckFault.{CheckFault}
use Rattle.cell_certificate.specs.declared.verdict.CheckFault.TheVariants.{Overflow, OutOfMemory}
use Rattle.cell_certificate.specs.Judgements.{IsJudged, AllPass, FirstRefused}

abbrev pub Answer : Type 0
Answer = Result Verdict CheckFault

abbrev pub HadMemory : Answer → Type 0
HadMemory (Ok verdict) = Unit {0}
HadMemory (Err (Overflow line)) = Unit {0}
HadMemory (Err OutOfMemory) = ⊥

-- the number of a reason
abbrev pub reason_of : Judgement → Option ℕ
reason_of Passes = None
reason_of Unfit = None
reason_of Order = Some 1
reason_of Dependent = Some 2
reason_of NotLevel = Some 3
reason_of NotLeast = Some 4
reason_of NotLowest = Some 5

-- every line of the listing passes
abbrev pub IsRight : Listing → Type 0
IsRight listing = AllPass (plain_problem listing.file) None listing.cells.items

-- the line has this number and fails by this reason
abbrev pub WrongAt : Problem → ℕ → ℕ → Option Cell → ListedCell → Type 0
WrongAt p number reason before x = (x.line ≡ number) × ((j : Judgement) × (reason_of j ≡ Some reason) × IsJudged p before x j)

-- the line has this number, and a number that doesn't fit
abbrev pub TooLargeAt : Problem → ℕ → Option Cell → ListedCell → Type 0
TooLargeAt p number before x = (x.line ≡ number) × IsJudged p before x Unfit

-- the first line that doesn't pass has this number and fails by this reason
abbrev pub IsWrong : Listing → ℕ → ℕ → Type 0
IsWrong listing number reason = FirstRefused (plain_problem listing.file) None listing.cells.items (WrongAt (plain_problem listing.file) number reason)

-- the first line that doesn't pass has this number, and a number that doesn't fit
abbrev pub IsTooLarge : Listing → ℕ → Type 0
IsTooLarge listing number = FirstRefused (plain_problem listing.file) None listing.cells.items (TooLargeAt (plain_problem listing.file) number)

-- what each answer says of the listing
abbrev pub IsAnswer : Listing → Answer → Type 0
IsAnswer listing (Ok Yes) = IsRight listing
IsAnswer listing (Ok (No number reason)) = IsWrong listing number reason
IsAnswer listing (Err (Overflow number)) = IsTooLarge listing number
IsAnswer listing (Err OutOfMemory) = Unit {0}

-- the answer at a line that is judged so
abbrev pub IsStop : ℕ → Judgement → Option Answer → Type 0
IsStop number Passes stop = stop ≡ None
IsStop number Unfit stop = stop ≡ Some (Err (Overflow number))
IsStop number Order stop = stop ≡ Some (Ok (No number 1))
IsStop number Dependent stop = stop ≡ Some (Ok (No number 2))
IsStop number NotLevel stop = stop ≡ Some (Ok (No number 3))
IsStop number NotLeast stop = stop ≡ Some (Ok (No number 4))
IsStop number NotLowest stop = stop ≡ Some (Ok (No number 5))
