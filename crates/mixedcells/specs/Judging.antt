-- How the answer of a checker is told.
use Rattle.std.specs.Prelude.{◌≡◌, ℕ, List, Ok, Err}
use Rattle.cell_certificate.specs.declared.verdict.Verdict.TheVariants.{Yes, No}
use Rattle.cell_certificate.specs.declared.verdict.CheckFault.TheVariants.{Overflow, OutOfMemory}
use Rattle.cell_certificate.specs.Answers.{Answer}
use Rattle.mixedcells.specs.declared.outcome.Outcome.{Outcome}
use Rattle.mixedcells.specs.declared.outcome.Outcome.TheVariants as variant
use Rattle.mixedcells.specs.Outcomes.{yes_line, no_line, overflow_line}

-- the outcome and its line tell the answer; want of memory is told otherwise
abbrev pub TellsAnswer : Answer → Outcome → List ℕ → Type 0
TellsAnswer (Ok Yes) outcome text = (outcome ≡ variant.Ok) × (text ≡ yes_line)
TellsAnswer (Ok (No line reason)) outcome text = (outcome ≡ variant.No line reason) × (text ≡ no_line line reason)
TellsAnswer (Err (Overflow line)) outcome text = (outcome ≡ variant.OverflowLine line) × (text ≡ overflow_line line)
TellsAnswer (Err OutOfMemory) outcome text = ⊥

-- yes where all is right, else the first line that doesn't pass, with the reason or for a number that doesn't fit
abbrev pub IsJudgedAs : Type 0 → (ℕ → ℕ → Type 0) → (ℕ → Type 0) → Outcome → List ℕ → Type 0
IsJudgedAs Right Wrong TooLarge variant.Ok text = (text ≡ yes_line) × Right
IsJudgedAs Right Wrong TooLarge (variant.No line reason) text = (text ≡ no_line line reason) × Wrong line reason
IsJudgedAs Right Wrong TooLarge (variant.OverflowLine line) text = (text ≡ overflow_line line) × TooLarge line
IsJudgedAs Right Wrong TooLarge variant.Usage text = ⊥
IsJudgedAs Right Wrong TooLarge (variant.Format line kind) text = ⊥
IsJudgedAs Right Wrong TooLarge (variant.OverflowCell cell) text = ⊥
IsJudgedAs Right Wrong TooLarge variant.ReadFault text = ⊥
IsJudgedAs Right Wrong TooLarge variant.WriteFault text = ⊥
IsJudgedAs Right Wrong TooLarge variant.OutOfMemory text = ⊥
IsJudgedAs Right Wrong TooLarge variant.TooLong text = ⊥
IsJudgedAs Right Wrong TooLarge (variant.TooMany choices) text = ⊥
IsJudgedAs Right Wrong TooLarge (variant.Tie proof) text = ⊥
IsJudgedAs Right Wrong TooLarge variant.NeedsTeam text = ⊥
