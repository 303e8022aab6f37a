-- What `check` replies is one answer of the checker, and what that answer says.
use Rattle.std.proofs.Common.{◌≡◌, ℕ, ◌∙◌, List, Ok, Err, None, refl, sym, ap, subst, arith, inl, inr}
use Rattle.cayley.specs.Files.{plain_problem}
use Rattle.support_text.specs.declared.fault.FormatFault.{FormatFault}
use Rattle.listing_text.specs.declared.listing.Listing.{Listing}
use Rattle.listing_text.specs.ListingText.{Listed, listing_of}
use Rattle.listing_text.proofs.Formed.{listing_formed, listing_of_file}
use Rattle.cell_certificate.specs.declared.verdict.Verdict.TheVariants.{Yes, No}
use Rattle.cell_certificate.specs.declared.verdict.CheckFault.TheVariants.{Overflow, OutOfMemory}
use Rattle.cell_certificate.specs.Judgements.{AllPass, FirstRefused}
use Rattle.cell_certificate.specs.Answers.{Answer, HadMemory, IsAnswer, IsRight, IsWrong, IsTooLarge, WrongAt, TooLargeAt}
use Rattle.cell_certificate.specs.Written.{AreListed, AreMixed}
use Rattle.cell_certificate.proofs.OneAnswer.{yes_exactly, no_exactly, overflow_exactly}
use Rattle.cell_certificate.proofs.MixedLines.{right_mixed}
use Rattle.mixedcells.specs.declared.outcome.Outcome.{Outcome}
use Rattle.mixedcells.specs.declared.outcome.Outcome.TheVariants as variant
use Rattle.mixedcells.specs.Outcomes.{status_of}
use Rattle.mixedcells.specs.Answers.{IsVerdictReply, IsListingText, IsCheckReply}
use Rattle.mixedcells.specs.Runs.{IsVerdict}
use Rattle.mixedcells.proofs.Judging.{outcome_of, judged_answer}
use Rattle.mixedcells.proofs.Readings.{ok_once, err_once, not_both}

pub verdict_answer : (listing : Listing) (o : Outcome) (t : List ℕ) → IsVerdictReply listing o t → (r : Answer) × HadMemory r × IsAnswer listing r × (o ≡ outcome_of r)
verdict_answer listing o t h = judged_answer (IsRight listing) (IsWrong listing) (IsTooLarge listing) (IsAnswer listing) (λ a. a) (λ line reason a. a) (λ line a. a) o t h

pub one_verdict : (listing : Listing) (r s : Answer) → HadMemory r → HadMemory s → IsAnswer listing r → IsAnswer listing s → r ≡ s
one_verdict listing r (Ok Yes) m n a b = (yes_exactly listing r a m).1 b
one_verdict listing r (Ok (No line reason)) m n a b = (no_exactly listing r a m line reason).1 b
one_verdict listing r (Err (Overflow line)) m n a b = (overflow_exactly listing r a m line).1 b
one_verdict listing r (Err OutOfMemory) m n a b = absurd n

-- what is said of a listing is said of its file and its cells
abbrev pub read_of : Listing → Listed
read_of listing = (listing.file, listing.cells.items)

pub same_answer : (l k : Listing) → read_of l ≡ read_of k → (r : Answer) → IsAnswer l r → IsAnswer k r
same_answer l k e (Ok Yes) a = subst (λ (x : Listed). AllPass (plain_problem x.0) None x.1) e a
same_answer l k e (Ok (No line reason)) a = subst (λ (x : Listed). FirstRefused (plain_problem x.0) None x.1 (WrongAt (plain_problem x.0) line reason)) e a
same_answer l k e (Err (Overflow line)) a = subst (λ (x : Listed). FirstRefused (plain_problem x.0) None x.1 (TooLargeAt (plain_problem x.0) line)) e a
same_answer l k e (Err OutOfMemory) a = tt

one_verdict_reply : (l k : Listing) (o q : Outcome) (t u : List ℕ) → read_of k ≡ read_of l → IsVerdictReply l o t → IsVerdictReply k q u → o ≡ q
one_verdict_reply l k o q t u e h g =
    let a = verdict_answer l o t h in
    let b = verdict_answer k q u g in
    a.3 ∙ ap outcome_of (one_verdict l a.0 b.0 a.1 b.1 a.2 (same_answer k l e b.0 b.2)) ∙ sym b.3

pub one_check_reply : (bytes : List ℕ) (o q : Outcome) (t u : List ℕ) → IsCheckReply bytes o t → IsCheckReply bytes q u → o ≡ q
one_check_reply bytes o q t u (inl h) (inl k) = one_verdict_reply h.0 k.0 o q t u (ok_once (listing_of bytes) (read_of k.0) (read_of h.0) k.1 h.1) h.2 k.2
one_check_reply bytes o q t u (inl h) (inr k) = absurd (not_both (listing_of bytes) (read_of h.0) k.0 h.1 k.1)
one_check_reply bytes o q t u (inr h) (inl k) = absurd (not_both (listing_of bytes) (read_of k.0) h.0 k.1 h.1)
one_check_reply bytes o q t u (inr h) (inr k) =
    h.2.0 ∙ ap (λ (f : FormatFault). variant.Format f.line f.kind) (err_once (listing_of bytes) h.0 k.0 h.1 k.1) ∙ sym k.2.0

-- a listing that was read is in form
pub are_listed : (bytes : List ℕ) (listing : Listing) → IsListingText bytes listing → AreListed listing
are_listed bytes listing e = listing_of_file bytes listing.file listing.cells.items e

-- yes: the listed cells are mixed cells
pub checked_mixed : (bytes t : List ℕ) → IsCheckReply bytes variant.Ok t → (listing : Listing) × IsListingText bytes listing × AreMixed listing
checked_mixed bytes t (inl h) =
    let valid = (listing_formed bytes h.0.file h.0.cells.items h.1).0 in
    (h.0, h.1, right_mixed h.0 valid (are_listed bytes h.0 h.1) h.2.1)
checked_mixed bytes t (inr h) = absurd (let e = ap status_of h.2.0 in omega (arith, e))

fitting_verdict : (listing : Listing) → ((line : ℕ) → ¬ (IsTooLarge listing line)) → (r : Answer) → HadMemory r → IsAnswer listing r → (o : Outcome) → o ≡ outcome_of r → IsVerdict o
fitting_verdict listing fit (Ok Yes) m a o e = inl e
fitting_verdict listing fit (Ok (No line reason)) m a o e = inr (line, reason, e)
fitting_verdict listing fit (Err (Overflow line)) m a o e = absurd (fit line a)
fitting_verdict listing fit (Err OutOfMemory) m a o e = absurd m

-- a listing in which no number that is needed fails to fit is judged
pub fitting_judged : (bytes : List ℕ) (listing : Listing) (o : Outcome) (t : List ℕ) → IsListingText bytes listing → ((line : ℕ) → ¬ (IsTooLarge listing line)) → IsCheckReply bytes o t → IsVerdict o
fitting_judged bytes listing o t e fit (inl h) =
    let a = verdict_answer h.0 o t h.2 in
    fitting_verdict listing fit a.0 a.1 (same_answer h.0 listing (ok_once (listing_of bytes) (read_of h.0) (read_of listing) h.1 e) a.0 a.2) o a.3
fitting_judged bytes listing o t e fit (inr h) = absurd (not_both (listing_of bytes) (read_of listing) h.0 e h.1)
