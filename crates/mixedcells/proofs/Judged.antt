-- What a run of `check` has answered.
use Rattle.std.proofs.Common.{◌≡◌, ◌⊎◌, ℕ, ◌≤◌, List, length, Option, Some, Ok, refl, subst, arith, inl, inr}
use Rattle.cayley.specs.Files.{File}
use Rattle.support_text.specs.ProblemText.{problem_of}
use Rattle.listing_text.specs.declared.listing.Listing.{Listing}
use Rattle.cell_certificate.specs.Answers.{IsTooLarge}
use Rattle.cell_certificate.specs.Written.{AreMixed}
use Rattle.mixedcells.specs.declared.words.Command.TheVariants as verb
use Rattle.mixedcells.specs.declared.outcome.Outcome.{Outcome}
use Rattle.mixedcells.specs.declared.outcome.Outcome.TheVariants as variant
use Rattle.mixedcells.specs.Words.{Means}
use Rattle.mixedcells.specs.Answers.{limit, IsListingText}
use Rattle.mixedcells.specs.Runs.{IsAnswer, IsCalledFor, IsFree, IsVerdict, IsWrittenListing, IsSpared}
use Rattle.mixedcells.proofs.Exact.{answer_of, reply_of, reply_not_long, free_or, known}
use Rattle.mixedcells.proofs.Checks.{checked_mixed, fitting_judged}
use Rattle.mixedcells.proofs.AlongPaths.{reached}
use Rattle.mixedcells.proofs.Spared.{plain_written, reached_written, spared}

module _ (words : List (List ℕ)) (bytes : List ℕ) (means : Means words verb.Check) where
  ended_yes : (t : List ℕ) → IsCalledFor words (Some bytes) variant.Ok t → (listing : Listing) × IsListingText bytes listing × AreMixed listing
  ended_yes t h = checked_mixed bytes t (reply_not_long verb.Check bytes variant.Ok t (λ e. omega (arith, e)) (answer_of words bytes verb.Check variant.Ok t means h))

  -- yes: the bytes are a listing of mixed cells
  pub checked : (left : Option (List ℕ)) (o : Outcome) (t : List ℕ) → left ≡ Some bytes → o ≡ variant.Ok → IsCalledFor words left o t
      → (listing : Listing) × IsListingText bytes listing × AreMixed listing
  checked left o t e ok h = ended_yes t (subst (λ q. IsCalledFor words (Some bytes) q t) ok (known words left bytes o t e h))

  -- a listing in which no number that is needed fails to fit is judged, unless a free answer comes
  pub judged : (listing : Listing) (result : Outcome) → length bytes ≤ limit → IsListingText bytes listing → ((line : ℕ) → ¬ (IsTooLarge listing line))
      → (¬ (IsFree result) → (t : List ℕ) × IsCalledFor words (Some bytes) result t) → IsVerdict result ⊎ IsFree result
  judged listing result short text fit f = elim (free_or result) [
    | inl free ↦ inr free
    | inr other ↦ let k = f other in
        inl (fitting_judged bytes listing result k.0 text fit (reply_of verb.Check bytes result k.0 short (answer_of words bytes verb.Check result k.0 means k.1)))
  ]

  spared_if : (file : File) → IsWrittenListing file bytes → (o : Outcome) (t : List ℕ) → IsAnswer verb.Check bytes o t → IsSpared bytes o
  spared_if file w o t (inl l) = inr (inr (l.0.1, l.1))
  spared_if file w o t (inr r) = spared bytes file w (r.0 refl) o t r.1

  -- a listing as a lister wrote it is spared, unless a free answer comes
  pub spares : (file : File) → IsWrittenListing file bytes → (result : Outcome) → (¬ (IsFree result) → (t : List ℕ) × IsCalledFor words (Some bytes) result t) → IsSpared bytes result ⊎ IsFree result
  spares file w result f = elim (free_or result) [
    | inl free ↦ inr free
    | inr other ↦ let k = f other in inl (spared_if file w result k.0 (answer_of words bytes verb.Check result k.0 means k.1))
  ]

-- what `plain` that ended Ok has written is such a listing
pub plain_spared : (words : List (List ℕ)) (left : Option (List ℕ)) (bytes : List ℕ) (o : Outcome) (t : List ℕ) → left ≡ Some bytes → Means words verb.Plain → o ≡ variant.Ok → IsCalledFor words left o t
    → (file : File) × (problem_of bytes ≡ Ok file) × IsWrittenListing file t
plain_spared words left bytes o t e means ok h =
    let k = subst (λ q. IsCalledFor words (Some bytes) q t) ok (known words left bytes o t e h) in
    plain_written bytes t (reply_not_long verb.Plain bytes variant.Ok t (λ f. omega (arith, f)) (answer_of words bytes verb.Plain variant.Ok t means k))

-- so is what `list` that ended Ok has written
pub list_spared : (words : List (List ℕ)) (left : Option (List ℕ)) (bytes : List ℕ) (o : Outcome) (t : List ℕ) → left ≡ Some bytes → Means words (verb.List 1) → o ≡ variant.Ok → IsCalledFor words left o t
    → (file : File) × (problem_of bytes ≡ Ok file) × IsWrittenListing file t
list_spared words left bytes o t e means ok h = let r = reached words bytes left o t e means ok h in (r.0, r.1, reached_written bytes t r.0 r.1 r.2)
