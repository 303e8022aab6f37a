-- What a run of `move` has written or told.
use Rattle.std.proofs.Common.{◌≡◌, ◌⊎◌, ◌≤◌, ◌∙◌, ℕ, ℤ, List, map, length, Option, Some, Ok, Err, refl, sym, ap, subst, arith, inl, inr}
use Rattle.int_vectors.specs.Vectors.{Each}
use Rattle.cayley.specs.declared.found.FoundCell.{FoundCell}
use Rattle.cayley.specs.declared.found.TieProof.{TieProof}
use Rattle.cayley.specs.Problems.{version1, IsProblem}
use Rattle.cayley.specs.Cells.{Cell, IsListOf}
use Rattle.cayley.specs.Files.{plain_problem, between_problem}
use Rattle.cayley.specs.Mixed.{IsMixedCell, IsLowestNormal}
use Rattle.cayley.specs.Shapes.{AreSecondHeights}
use Rattle.cayley.specs.Valid.{IsValidFile}
use Rattle.cayley.proofs.Ranking.PlainProblems.{plain_valid}
use Rattle.cayley.proofs.Ranking.MovedProblems.{between_valid}
use Rattle.searcher.specs.declared.expansions.HaltCause.TheVariants.{Tie, Overflow}
use Rattle.searcher.specs.Passes.{IsReached}
use Rattle.listing_text.specs.declared.listing.Listing.{Listing}
use Rattle.listing_text.specs.declared.listing.ListedCell.{ListedCell}
use Rattle.listing_text.specs.Writing.{listing_text}
use Rattle.listing_text.specs.Listings.{IsListingOf, AreMixedCells}
use Rattle.cell_certificate.specs.declared.verdict.Verdict.TheVariants.{Yes, No}
use Rattle.cell_certificate.specs.declared.verdict.CheckFault.TheVariants.{Overflow as Large}
use Rattle.cell_certificate.specs.Answers.{IsRight}
use Rattle.lift_move.specs.MoveText.{Move, move_of}
use Rattle.lift_move.specs.Segments.{IsGeneric, second_of}
use Rattle.lift_move.specs.Moves.{AreAll, FitAllOnTheWay}
use Rattle.lift_move.proofs.Lifted.{second_valid, plain_end}
use Rattle.lift_move.proofs.MoveFormed.{move_formed}
use Rattle.lift_move.proofs.SegmentLaws.{is_segment, start_is, end_is, complete_is}
use Rattle.lift_move.proofs.Found.{halt_untied, halt_fits}
use Rattle.mixedcells.specs.declared.words.Command.TheVariants as verb
use Rattle.mixedcells.specs.declared.outcome.Outcome.{Outcome}
use Rattle.mixedcells.specs.declared.outcome.Outcome.TheVariants as variant
use Rattle.mixedcells.specs.Words.{Means}
use Rattle.mixedcells.specs.Outcomes.{status_of}
use Rattle.mixedcells.specs.Moving.{segment_of, target_of, listed_cells, AreMovedCells, IsMovedListing, IsMoveTie, IsMoveUnfit, IsMovedReply, IsFull, IsGenericMove, MoveFits}
use Rattle.mixedcells.specs.Answers.{limit, IsMoveText, IsMoveReply}
use Rattle.mixedcells.specs.Runs.{IsCalledFor, IsFree}
use Rattle.mixedcells.proofs.Judging.{outcome_of}
use Rattle.mixedcells.proofs.Checks.{one_verdict, read_of, same_answer}
use Rattle.mixedcells.proofs.Readings.{ok_once, not_both}
use Rattle.mixedcells.proofs.Exact.{answer_of, reply_of, reply_not_long, free_or, known}

-- ---- listings and second heights that were read
module _ (listing : Listing) (second : List (List ℤ)) (valid : IsValidFile listing.file) (first : listing.file.version ≡ version1) (h : AreSecondHeights listing.file second) where
  well : IsProblem (segment_of listing second)
  well = (between_valid listing.file second valid h).shape.problem

  all_alive : IsFull listing → AreAll (segment_of listing second) (listed_cells listing)
  all_alive full = (
    full.0,
    λ c. ((λ m. (start_is listing.file second c valid first h).1 ((full.1 c).0 m)), (λ a. (full.1 c).1 ((start_is listing.file second c valid first h).0 a))),
  )

  -- along a generic segment a full listing leads to all mixed cells of the second lift
  all_moved : IsFull listing → IsGenericMove listing second → (found : List FoundCell) → AreMovedCells listing second found → AreMixedCells (target_of listing second) found
  all_moved full generic found m = record {
    cells = (
      m.cells.0,
      λ c. (
        (λ k. (end_is listing.file second c valid first h).0 ((m.cells.1 c).0 k).0),
        (λ x. (m.cells.1 c).1 (complete_is (segment_of listing second) (listed_cells listing) c well generic (all_alive full) ((end_is listing.file second c valid first h).1 x))),
      ),
    );
    normals = m.normals;
  }

  no_tie : IsGenericMove listing second → (proof : TieProof) → IsMoveTie listing second proof → ⊥
  no_tie generic proof k =
      halt_untied (segment_of listing second) (plain_problem (target_of listing second)) well (is_segment listing.file second h.0)
      (plain_valid (target_of listing second) (second_valid listing.file second valid h)) (plain_end listing.file first second h.0) (listed_cells listing) generic (Tie proof) k

  all_fit : MoveFits listing second → (cell : Cell) → IsMoveUnfit listing second cell → ⊥
  all_fit fits cell k =
      halt_fits (segment_of listing second) (plain_problem (target_of listing second)) well (is_segment listing.file second h.0)
      (plain_valid (target_of listing second) (second_valid listing.file second valid h)) (plain_end listing.file first second h.0) (listed_cells listing) fits (Overflow cell) k

  -- where all lines pass, the segment is generic and all fits, the move ends well
  move_ok : IsRight listing → IsGenericMove listing second → MoveFits listing second → (o : Outcome) (t : List ℕ) → IsMovedReply listing second o t → o ≡ variant.Ok
  move_ok right generic fits variant.Ok t k = refl
  move_ok right generic fits (variant.No line reason) t k = sym (ap outcome_of (one_verdict listing (Ok Yes) (Ok (No line reason)) tt tt right k.1))
  move_ok right generic fits (variant.OverflowLine line) t k = sym (ap outcome_of (one_verdict listing (Ok Yes) (Err (Large line)) tt tt right k.1))
  move_ok right generic fits (variant.Tie proof) t k = absurd (no_tie generic proof k.2)
  move_ok right generic fits (variant.OverflowCell cell) t k = absurd (all_fit fits cell k.2)
  move_ok right generic fits variant.Usage t k = absurd k
  move_ok right generic fits (variant.Format line kind) t k = absurd k
  move_ok right generic fits variant.ReadFault t k = absurd k
  move_ok right generic fits variant.WriteFault t k = absurd k
  move_ok right generic fits variant.OutOfMemory t k = absurd k
  move_ok right generic fits variant.TooLong t k = absurd k
  move_ok right generic fits (variant.TooMany choices) t k = absurd k
  move_ok right generic fits variant.NeedsTeam t k = absurd k

-- ---- replies
-- a reply other than a fault of the format is said of what was read
said_move : (bytes : List ℕ) (o : Outcome) (t : List ℕ) → (status_of o ≡ 3 → ⊥) → IsMoveReply bytes o t
    → (listing : Listing) × (second : List (List ℤ)) × IsMoveText bytes listing second × IsMovedReply listing second o t
said_move bytes o t other (inl h) = h
said_move bytes o t other (inr h) = absurd (other (ap status_of h.2.0))

-- what is said of a listing and second heights is said of what was read
module _ (l k : Listing) (ls ks : List (List ℤ)) (e : ◌≡◌ {A = Move} (read_of l, ls) (read_of k, ks)) where
  same_moved : (found : List FoundCell) → AreMovedCells l ls found → AreMovedCells k ks found
  same_moved found m = record {
    cells = subst (λ (x : Move). IsListOf (IsReached (between_problem x.0.0 x.1) (map (λ (y : ListedCell). y.cell) x.0.1)) (map (λ (y : FoundCell). y.cell) found)) e m.cells;
    mixed = subst (λ (x : Move). Each found (λ (y : FoundCell). IsMixedCell (plain_problem (second_of x.0.0 x.1)) y.cell)) e m.mixed;
    normals = subst (λ (x : Move). Each found (λ (y : FoundCell). IsLowestNormal (plain_problem (second_of x.0.0 x.1)) y.cell y.normal.v y.normal.den)) e m.normals;
  }

  same_text : (found : List FoundCell) (t : List ℕ) → t ≡ listing_text (target_of l ls) found → t ≡ listing_text (target_of k ks) found
  same_text found t h = h ∙ ap (λ (x : Move). listing_text (second_of x.0.0 x.1) found) e

  same_generic : IsGenericMove l ls → IsGenericMove k ks
  same_generic h = subst (λ (x : Move). IsGeneric (between_problem x.0.0 x.1)) e h

  same_fits : MoveFits l ls → MoveFits k ks
  same_fits h = subst (λ (x : Move). FitAllOnTheWay (between_problem x.0.0 x.1) (plain_problem (second_of x.0.0 x.1)) (map (λ (y : ListedCell). y.cell) x.0.1)) e h

  same_right : IsRight l → IsRight k
  same_right h = same_answer l k (ap (λ (x : Move). x.0) e) (Ok Yes) h

module _ (words : List (List ℕ)) (bytes : List ℕ) (means : Means words verb.Move) where
  move_reply : (o : Outcome) (t : List ℕ) → (status_of o ≡ 9 → ⊥) → IsCalledFor words (Some bytes) o t → IsMoveReply bytes o t
  move_reply o t other h = reply_not_long verb.Move bytes o t other (answer_of words bytes verb.Move o t means h)

  ended_reply : (left : Option (List ℕ)) (o q : Outcome) (t : List ℕ) → (status_of q ≡ 9 → ⊥) → (status_of q ≡ 3 → ⊥) → left ≡ Some bytes → o ≡ q → IsCalledFor words left o t
      → (listing : Listing) × (second : List (List ℤ)) × IsMoveText bytes listing second × IsMovedReply listing second q t
  ended_reply left o q t long form e is h = said_move bytes q t form (move_reply q t long (subst (λ x. IsCalledFor words (Some bytes) x t) is (known words left bytes o t e h)))

  -- `move` that ended Ok
  pub moved : (left : Option (List ℕ)) (o : Outcome) (t : List ℕ) → left ≡ Some bytes → o ≡ variant.Ok → IsCalledFor words left o t
      → (listing : Listing) × (second : List (List ℤ)) × IsMoveText bytes listing second × IsRight listing × IsMovedListing listing second t
  moved left o t e ok h =
      let r = ended_reply left o variant.Ok t (λ f. omega (arith, f)) (λ f. omega (arith, f)) e ok h in
      (r.0, r.1, r.2, r.3.0, r.3.1)

  -- why it was refused
  pub move_tie : (proof : TieProof) (left : Option (List ℕ)) (o : Outcome) (t : List ℕ) → left ≡ Some bytes → o ≡ variant.Tie proof → IsCalledFor words left o t
      → (listing : Listing) × (second : List (List ℤ)) × IsMoveText bytes listing second × IsMoveTie listing second proof
  move_tie proof left o t e is h =
      let r = ended_reply left o (variant.Tie proof) t (λ f. omega (arith, f)) (λ f. omega (arith, f)) e is h in
      (r.0, r.1, r.2, r.3.2)

  pub move_unfit : (cell : Cell) (left : Option (List ℕ)) (o : Outcome) (t : List ℕ) → left ≡ Some bytes → o ≡ variant.OverflowCell cell → IsCalledFor words left o t
      → (listing : Listing) × (second : List (List ℤ)) × IsMoveText bytes listing second × IsMoveUnfit listing second cell
  move_unfit cell left o t e is h =
      let r = ended_reply left o (variant.OverflowCell cell) t (λ f. omega (arith, f)) (λ f. omega (arith, f)) e is h in
      (r.0, r.1, r.2, r.3.2)

  -- from a full listing along a generic segment it has written the listing of the second file
  pub moved_whole : (listing : Listing) (second : List (List ℤ)) (left : Option (List ℕ)) (o : Outcome) (t : List ℕ) → left ≡ Some bytes → IsMoveText bytes listing second
      → IsFull listing → IsGenericMove listing second → o ≡ variant.Ok → IsCalledFor words left o t → IsListingOf (target_of listing second) t
  moved_whole listing second left o t e text full generic ok h =
      let r = moved left o t e ok h in
      let same = ok_once (move_of bytes) (read_of r.0, r.1) (read_of listing, second) r.2 text in
      let formed = move_formed bytes (read_of listing, second) text in
      let cells = same_moved r.0 listing r.1 second same r.4.0 r.4.1 in
      (r.4.0, all_moved listing second formed.valid formed.version formed.heights full generic r.4.0 cells, same_text r.0 listing r.1 second same r.4.0 t r.4.2)

  move_said : (listing : Listing) (second : List (List ℤ)) (o : Outcome) (t : List ℕ) → IsMoveText bytes listing second → IsRight listing → IsGenericMove listing second → MoveFits listing second
      → IsMoveReply bytes o t → o ≡ variant.Ok
  move_said listing second o t text right generic fits (inl h) =
      let same = ok_once (move_of bytes) (read_of listing, second) (read_of h.0, h.1) text h.2 in
      let formed = move_formed bytes (read_of h.0, h.1) h.2 in
      move_ok h.0 h.1 formed.valid formed.version formed.heights (same_right listing h.0 second h.1 same right) (same_generic listing h.0 second h.1 same generic) (same_fits listing h.0 second h.1 same fits) o t h.3
  move_said listing second o t text right generic fits (inr h) = absurd (not_both (move_of bytes) (read_of listing, second) h.0 text h.1)

  -- a right listing is moved along a generic segment where all workings fit, unless a free answer comes
  pub moves : (listing : Listing) (second : List (List ℤ)) (result : Outcome) → length bytes ≤ limit → IsMoveText bytes listing second → IsRight listing → IsGenericMove listing second → MoveFits listing second
      → (¬ (IsFree result) → (t : List ℕ) × IsCalledFor words (Some bytes) result t) → (result ≡ variant.Ok) ⊎ IsFree result
  moves listing second result short text right generic fits f = elim (free_or result) [
    | inl free ↦ inr free
    | inr other ↦ let k = f other in
        inl (move_said listing second result k.0 text right generic fits (reply_of verb.Move bytes result k.0 short (answer_of words bytes verb.Move result k.0 means k.1)))
  ]
