-- What `powers` replies is one answer of the checker and at most one flat line.
use Rattle.std.proofs.Common.{◌≡◌, ℕ, ◌∙◌, List, Option, Some, None, Ok, Err, refl, sym, ap, ap₂, subst, arith, inl, inr}
use Rattle.cayley.specs.Files.{plain_problem}
use Rattle.support_text.specs.declared.fault.FormatFault.{FormatFault}
use Rattle.listing_text.specs.declared.listing.Listing.{Listing}
use Rattle.listing_text.specs.ListingText.{Listed, listing_of}
use Rattle.cell_certificate.specs.declared.verdict.Verdict.TheVariants.{Yes, No}
use Rattle.cell_certificate.specs.declared.verdict.CheckFault.TheVariants.{Overflow, OutOfMemory}
use Rattle.cell_certificate.specs.Answers.{Answer, HadMemory, IsAnswer}
use Rattle.homotopy_rows.specs.Flat.{FirstFlat}
use Rattle.homotopy_rows.proofs.FlatLines.{one_first}
use Rattle.mixedcells.specs.declared.outcome.Outcome.{Outcome}
use Rattle.mixedcells.specs.declared.outcome.Outcome.TheVariants as variant
use Rattle.mixedcells.specs.Answers.{HasNoFlat, IsRowsReply, IsPowersReply}
use Rattle.mixedcells.proofs.Judging.{outcome_of}
use Rattle.mixedcells.proofs.Checks.{one_verdict, read_of, same_answer}
use Rattle.mixedcells.proofs.Readings.{ok_once, err_once, not_both}

-- the outcome that tells an answer of the checker, and the first flat line if there is one
abbrev outcome_with : Answer → Option ℕ → Outcome
outcome_with r None = outcome_of r
outcome_with r (Some line) = variant.No line 6

-- what is noted beside an answer: where every line passes the first flat one
abbrev IsNote : Listing → Answer → Option ℕ → Type 0
IsNote listing (Ok Yes) None = HasNoFlat listing
IsNote listing (Ok Yes) (Some line) = FirstFlat (plain_problem listing.file) listing.cells.items line
IsNote listing (Ok (No line reason)) flat = flat ≡ None
IsNote listing (Err (Overflow line)) flat = flat ≡ None
IsNote listing (Err OutOfMemory) flat = ⊥

noted : (listing : Listing) (o : Outcome) (t : List ℕ) → IsRowsReply listing o t
    → (r : Answer) × (note : Option ℕ) × HadMemory r × IsAnswer listing r × IsNote listing r note × (o ≡ outcome_with r note)
noted listing variant.Ok t h = (Ok Yes, None, tt, h.0, h.1, refl)
noted listing (variant.No line reason) t h = elim h.1 [
  | inl w ↦ (Ok (No line reason), None, tt, w, refl, refl)
  | inr f ↦ (Ok Yes, Some line, tt, f.1.0, f.1.1, ap (λ k. variant.No line k) f.0)
]
noted listing (variant.OverflowLine line) t h = (Err (Overflow line), None, tt, h.1, refl, refl)
noted listing variant.Usage t h = absurd h
noted listing (variant.Format line kind) t h = absurd h
noted listing (variant.OverflowCell cell) t h = absurd h
noted listing variant.ReadFault t h = absurd h
noted listing variant.WriteFault t h = absurd h
noted listing variant.OutOfMemory t h = absurd h
noted listing variant.TooLong t h = absurd h
noted listing (variant.TooMany choices) t h = absurd h
noted listing (variant.Tie proof) t h = absurd h
noted listing variant.NeedsTeam t h = absurd h

one_note : (listing : Listing) (r : Answer) (f g : Option ℕ) → IsNote listing r f → IsNote listing r g → f ≡ g
one_note listing (Ok Yes) None None a b = refl
one_note listing (Ok Yes) None (Some n) a b = absurd (a n b)
one_note listing (Ok Yes) (Some m) None a b = absurd (b m a)
one_note listing (Ok Yes) (Some m) (Some n) a b = ap Some (one_first (plain_problem listing.file) listing.cells.items m n a b)
one_note listing (Ok (No line reason)) f g a b = a ∙ sym b
one_note listing (Err (Overflow line)) f g a b = a ∙ sym b
one_note listing (Err OutOfMemory) f g a b = absurd a

same_note : (l k : Listing) → read_of l ≡ read_of k → (r : Answer) (f : Option ℕ) → IsNote l r f → IsNote k r f
same_note l k e (Ok Yes) None a = λ n f. a n (subst (λ (x : Listed). FirstFlat (plain_problem x.0) x.1 n) (sym e) f)
same_note l k e (Ok Yes) (Some n) a = subst (λ (x : Listed). FirstFlat (plain_problem x.0) x.1 n) e a
same_note l k e (Ok (No line reason)) f a = a
same_note l k e (Err (Overflow line)) f a = a
same_note l k e (Err OutOfMemory) f a = a

one_rows_reply : (l k : Listing) (o q : Outcome) (t u : List ℕ) → read_of k ≡ read_of l → IsRowsReply l o t → IsRowsReply k q u → o ≡ q
one_rows_reply l k o q t u e h g =
    let a = noted l o t h in
    let b = noted k q u g in
    let r = one_verdict l a.0 b.0 a.2 b.2 a.3 (same_answer k l e b.0 b.3) in
    let n = one_note l a.0 a.1 b.1 a.4 (subst (λ s. IsNote l s b.1) (sym r) (same_note k l e b.0 b.1 b.4)) in
    a.5 ∙ ap₂ outcome_with r n ∙ sym b.5

pub one_powers_reply : (bytes : List ℕ) (o q : Outcome) (t u : List ℕ) → IsPowersReply bytes o t → IsPowersReply bytes q u → o ≡ q
one_powers_reply bytes o q t u (inl h) (inl k) = one_rows_reply h.0 k.0 o q t u (ok_once (listing_of bytes) (read_of k.0) (read_of h.0) k.1 h.1) h.2 k.2
one_powers_reply bytes o q t u (inl h) (inr k) = absurd (not_both (listing_of bytes) (read_of h.0) k.0 h.1 k.1)
one_powers_reply bytes o q t u (inr h) (inl k) = absurd (not_both (listing_of bytes) (read_of k.0) h.0 k.1 h.1)
one_powers_reply bytes o q t u (inr h) (inr k) =
    h.2.0 ∙ ap (λ (f : FormatFault). variant.Format f.line f.kind) (err_once (listing_of bytes) h.0 k.0 h.1 k.1) ∙ sym k.2.0
