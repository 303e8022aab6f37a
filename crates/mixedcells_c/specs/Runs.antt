-- What a run on bytes in memory says, and how it reaches the caller.
use Rattle.std.specs.Prelude.{◌≡◌, ◌≢◌, ◌⊎◌, ◌↔◌, ◌≤◌, ℕ, List, [], length, Some, Ok, MatchResult}
use Rattle.cayley.specs.Cells.{Cell}
use Rattle.cayley.specs.declared.found.TieProof.{TieProof}
use Rattle.cayley.specs.Files.{File, plain_problem}
use Rattle.cayley.specs.Paths.{path}
use Rattle.support_text.specs.ProblemText.{problem_of}
use Rattle.support_text.specs.Writing.{problem_text}
use Rattle.listing_text.specs.declared.listing.Listing.{Listing}
use Rattle.listing_text.specs.Listings.{IsListingOf}
use Rattle.cell_certificate.specs.Answers.{IsRight, IsTooLarge}
use Rattle.cell_certificate.specs.Written.{AreMixed}
use Rattle.homotopy_rows.specs.Answers.{IsPowersText}
use Rattle.path_log.specs.declared.log.PathLog.{PathLog}
use Rattle.log_check.specs.Verdicts.{HasPathTree, ListsMixedCells}
use Rattle.cell_bound.specs.Quiet.{IsQuiet}
use Rattle.poly_text.specs.SystemText.{system_of}
use Rattle.plain_lister.specs.Choices.{HasTooMany}
use Rattle.plain_lister.specs.Lists.{AllFit}
use Rattle.mixedcells.specs.declared.words.meaning.Family.{Family}
use Rattle.mixedcells.specs.declared.words.Command.TheVariants as verb
use Rattle.mixedcells.specs.declared.outcome.Outcome.{Outcome}
use Rattle.mixedcells.specs.declared.outcome.Outcome.TheVariants as variant
use Rattle.mixedcells.specs.Words.{Means, HasMeaning, IsForTeam, IsWalking}
use Rattle.mixedcells.specs.Families.{family_file, lifted_text}
use Rattle.mixedcells.specs.Answers.{limit, IsListingText}
use Rattle.mixedcells.specs.Walks.{IsReachedListing, IsReachedSum, IsSumOf, IsSafe, TreeFits, IsTreeTie, IsTreeUnfit}
use Rattle.mixedcells.specs.Logs.{IsTracedText, IsWrittenLog, IsLogText}
use Rattle.mixedcells.specs.Runs.{AreLoose, IsCalledFor, IsFree, IsVerdict, IsWrittenListing, IsSpared, IsSparedLog, Passes}
use Rattle.mixedcells_c.specs.Buffers.{IsGiven, HasNoRoom, HasNoMemory}

-- what `run_alone` says where the words and the input are these, neither end fails, and it ends so and writes this
pub record IsRun (words : List (List ℕ)) (input : List ℕ) (outcome : Outcome) (text : List ℕ) : Type 0 where
  pub bound : ¬ (IsFree outcome)
  pub written : IsCalledFor words (Some input) outcome text
  pub exact : (other : Outcome) (said : List ℕ) → IsCalledFor words (Some input) other said → (outcome ≡ other) ⊎ AreLoose words outcome other
  pub listing : Means words verb.Plain → outcome ≡ variant.Ok → (file : File) × (problem_of input ≡ Ok file) × IsListingOf file text
  pub complete : (file : File) → length input ≤ limit → Means words verb.Plain → problem_of input ≡ Ok file
      → ¬ (HasTooMany (plain_problem file)) → AllFit (plain_problem file) → outcome ≡ variant.Ok
  pub checked : Means words verb.Check → outcome ≡ variant.Ok → (listing : Listing) × IsListingText input listing × AreMixed listing
  pub judged : (listing : Listing) → length input ≤ limit → Means words verb.Check → IsListingText input listing
      → ((line : ℕ) → ¬ (IsTooLarge listing line)) → IsVerdict outcome
  pub written_listing : Means words verb.Plain → outcome ≡ variant.Ok → (file : File) × (problem_of input ≡ Ok file) × IsWrittenListing file text
  pub written_reached : Means words (verb.List 1) → outcome ≡ variant.Ok → (file : File) × (problem_of input ≡ Ok file) × IsWrittenListing file text
  pub spares : (file : File) → Means words verb.Check → IsWrittenListing file input → IsSpared input outcome
  pub headline : (file : File) → Means words (verb.List 1) → problem_of input ≡ Ok file → IsSafe file → outcome ≡ variant.Ok → IsListingOf file text
  pub reached : Means words (verb.List 1) → outcome ≡ variant.Ok → (file : File) × (problem_of input ≡ Ok file) × IsReachedListing file text
  pub headline_sum : (file : File) → Means words (verb.Sum 1) → problem_of input ≡ Ok file → IsSafe file → outcome ≡ variant.Ok → IsSumOf file text
  pub reached_sum : Means words (verb.Sum 1) → outcome ≡ variant.Ok → (file : File) × (problem_of input ≡ Ok file) × IsReachedSum file text
  pub tie_cause : (proof : TieProof) → IsWalking words → outcome ≡ variant.Tie proof → (file : File) × (problem_of input ≡ Ok file) × IsTreeTie file proof
  pub overflow_cause : (cell : Cell) → IsWalking words → outcome ≡ variant.OverflowCell cell
      → (file : File) × (problem_of input ≡ Ok file) × IsTreeUnfit file cell
  pub walked : (file : File) → length input ≤ limit → IsWalking words → problem_of input ≡ Ok file → IsSafe file → TreeFits file → outcome ≡ variant.Ok
  pub quiet : (file : File) → problem_of input ≡ Ok file → IsQuiet file → (cell : Cell) → outcome ≢ variant.OverflowCell cell
  pub walked_quiet : (file : File) → length input ≤ limit → IsWalking words → problem_of input ≡ Ok file → IsSafe file → IsQuiet file → outcome ≡ variant.Ok
  pub passes : (file : File) → Means words verb.Check → IsWrittenListing file input → IsQuiet file → Passes input outcome
  pub judged_ties : (file : File) → length input ≤ limit → Means words verb.Generic → problem_of input ≡ Ok file
      → ¬ (HasTooMany (path file)) → AllFit (path file) → (outcome ≡ variant.Ok) ⊎ ((proof : TieProof) × (outcome ≡ variant.Tie proof))
  pub tie_free : (file : File) → Means words verb.Generic → problem_of input ≡ Ok file → outcome ≡ variant.Ok → IsSafe file
  pub needs_team : (outcome ≡ variant.NeedsTeam) ↔ IsForTeam words
  pub silent : outcome ≡ variant.NeedsTeam → text ≡ []
  pub powers : Means words verb.Powers → outcome ≡ variant.Ok → (listing : Listing) × IsListingText input listing × IsRight listing × IsPowersText listing text
  pub traced : Means words verb.Trace → outcome ≡ variant.Ok → (file : File) × (problem_of input ≡ Ok file) × IsTracedText file text
  pub verified : Means words verb.Verify → outcome ≡ variant.Ok → (log : PathLog) × IsLogText input log × HasPathTree log × ListsMixedCells log
  pub spares_log : (file : File) → Means words verb.Verify → IsWrittenLog file input → IsSparedLog input outcome
  pub systems : (seed : ℕ) → length input ≤ limit → Means words (verb.Poly seed) → MatchResult (system_of input)
      (λ system. (outcome ≡ variant.Ok) × (text ≡ lifted_text seed system)) (λ fault. outcome ≡ variant.Format fault.line fault.kind)
  pub made : (family : Family) (seed : ℕ) → Means words (verb.Make family seed) → outcome ≡ variant.Ok
  pub made_text : (family : Family) (seed : ℕ) → Means words (verb.Make family seed) → outcome ≡ variant.Ok → text ≡ problem_text (family_file family seed)
  pub usage : ¬ (HasMeaning words) → outcome ≡ variant.Usage

-- the answer of such a run is given, or there is no room for it, or there was no memory
pub record IsEnd (words : List (List ℕ)) (input old new : List ℕ) (needed status : ℕ) : Type 0 where
  pub way : ((outcome : Outcome) × (text : List ℕ) × IsRun words input outcome text × IsGiven outcome text old new needed status)
      ⊎ ((outcome : Outcome) × (text : List ℕ) × IsRun words input outcome text × HasNoRoom text old new needed status)
      ⊎ HasNoMemory old new needed status
