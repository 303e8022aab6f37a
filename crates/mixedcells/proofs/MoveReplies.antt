-- What `move` replies is one answer, up to the ends of a move; and no problem file is a move file.
use Rattle.std.proofs.Common.{◌≡◌, ◌⊎◌, ◌∙◌, ℕ, ℤ, List, [], ◌∷◌, Result, Ok, Err, refl, sym, ap, subst, inl, inr}
use Rattle.std.specs.Prelude.{IfOk, MatchResult}
use Rattle.int_vectors.specs.Vectors.{Each}
use Rattle.cayley.specs.declared.found.FoundCell.{FoundCell}
use Rattle.cayley.specs.Times.{time_zero}
use Rattle.cayley.specs.Problems.{version1, Problem}
use Rattle.cayley.specs.Cells.{Cell, IsListOf, IsSorted}
use Rattle.cayley.specs.Files.{File, plain_problem}
use Rattle.cayley.specs.Mixed.{IsAlive, IsMixedCell}
use Rattle.cayley.specs.Shapes.{AreSecondHeights}
use Rattle.cayley.specs.Valid.{IsValidFile}
use Rattle.int_vectors.proofs.Each.{each_map, each_unmap, each_weaker}
use Rattle.line_text.specs.Lines.{Row, lines_of, end_line_of}
use Rattle.cayley.specs.Stored.{cells_of}
use Rattle.support_text.specs.declared.fault.FormatFault.{FormatFault}
use Rattle.support_text.specs.Faults.{◌>>=◌}
use Rattle.support_text.specs.Words.{next_line}
use Rattle.support_text.specs.ProblemText.{problem_at, no_line, problem_of}
use Rattle.support_text.proofs.Series.{bind_ok, ok_is}
use Rattle.searcher.specs.declared.expansions.HaltCause.{HaltCause}
use Rattle.searcher.specs.declared.expansions.HaltCause.TheVariants.{Tie, Overflow, OutOfMemory}
use Rattle.searcher.specs.Expansions.{HasLowestNormal}
use Rattle.searcher.specs.Passes.{IsReached}
use Rattle.listing_text.specs.declared.listing.Listing.{Listing}
use Rattle.listing_text.specs.declared.listing.ListedCell.{ListedCell}
use Rattle.listing_text.specs.ListingText.{counts_of, part_at, cells_through, listing_at}
use Rattle.cell_certificate.specs.declared.verdict.Verdict.TheVariants.{Yes, No}
use Rattle.cell_certificate.specs.declared.verdict.CheckFault.TheVariants.{Overflow as Large}
use Rattle.cell_certificate.specs.Answers.{Answer, HadMemory, IsAnswer, IsRight}
use Rattle.cell_certificate.specs.Written.{AreListed}
use Rattle.cell_certificate.proofs.MixedLines.{right_mixed}
use Rattle.lift_move.specs.Segments.{IsSegment}
use Rattle.lift_move.proofs.SegmentLaws.{is_segment as between_segment, start_is}
use Rattle.lift_move.specs.MoveText.{Move, first_header, second_at, move_of}
use Rattle.lift_move.specs.Moves.{AreMoved, IsMoveHalt}
use Rattle.mixedcells.specs.declared.outcome.Outcome.{Outcome}
use Rattle.mixedcells.specs.declared.outcome.Outcome.TheVariants as variant
use Rattle.mixedcells.specs.Journeys.{TellsCause}
use Rattle.mixedcells.specs.Moving.{segment_of, target_of, listed_cells, AreMovedCells, IsMovedReply}
use Rattle.mixedcells.specs.Answers.{IsMoveReply}
use Rattle.mixedcells.specs.Runs.{IsWalkEnd}
use Rattle.mixedcells.proofs.Judging.{outcome_of}
use Rattle.mixedcells.proofs.Checks.{one_verdict, read_of, same_answer}
use Rattle.mixedcells.proofs.Readings.{ok_once, err_once, not_both}

-- ---- one reply
-- the answer of the checker behind a reply, which tells it or is an end of a move
judged_first : (listing : Listing) (second : List (List ℤ)) (o : Outcome) (t : List ℕ) → IsMovedReply listing second o t
    → (r : Answer) × HadMemory r × IsAnswer listing r × (((r ≡ Ok Yes) × IsWalkEnd o) ⊎ (o ≡ outcome_of r))
judged_first listing second variant.Ok t h = (Ok Yes, tt, h.0, inr refl)
judged_first listing second (variant.No line reason) t h = (Ok (No line reason), tt, h.1, inr refl)
judged_first listing second (variant.OverflowLine line) t h = (Err (Large line), tt, h.1, inr refl)
judged_first listing second (variant.Tie proof) t h = (Ok Yes, tt, h.1, inl (refl, inr (inl (proof, refl))))
judged_first listing second (variant.OverflowCell cell) t h = (Ok Yes, tt, h.1, inl (refl, inr (inr (cell, refl))))
judged_first listing second variant.Usage t h = absurd h
judged_first listing second (variant.Format line kind) t h = absurd h
judged_first listing second variant.ReadFault t h = absurd h
judged_first listing second variant.WriteFault t h = absurd h
judged_first listing second variant.OutOfMemory t h = absurd h
judged_first listing second variant.TooLong t h = absurd h
judged_first listing second (variant.TooMany choices) t h = absurd h
judged_first listing second variant.NeedsTeam t h = absurd h

abbrev AreMoveEnds : Outcome → Outcome → Type 0
AreMoveEnds o q = IsWalkEnd o × IsWalkEnd q

both_ends : (r s : Answer) (o q : Outcome) → r ≡ s → ((r ≡ Ok Yes) × IsWalkEnd o) ⊎ (o ≡ outcome_of r) → ((s ≡ Ok Yes) × IsWalkEnd q) ⊎ (q ≡ outcome_of s) → (o ≡ q) ⊎ AreMoveEnds o q
both_ends r s o q e (inl a) (inl b) = inr (a.1, b.1)
both_ends r s o q e (inl a) (inr b) = inr (a.1, inl (b ∙ ap outcome_of (sym e ∙ a.0)))
both_ends r s o q e (inr a) (inl b) = inr (inl (a ∙ ap outcome_of (e ∙ b.0)), b.1)
both_ends r s o q e (inr a) (inr b) = inl (a ∙ ap outcome_of e ∙ sym b)

one_moved_reply : (l k : Listing) (ls ks : List (List ℤ)) (o q : Outcome) (t u : List ℕ) → read_of k ≡ read_of l → IsMovedReply l ls o t → IsMovedReply k ks q u → (o ≡ q) ⊎ AreMoveEnds o q
one_moved_reply l k ls ks o q t u e h g =
    let a = judged_first l ls o t h in
    let b = judged_first k ks q u g in
    both_ends a.0 b.0 o q (one_verdict l a.0 b.0 a.1 b.1 a.2 (same_answer k l e b.0 b.2)) a.3 b.3

pub one_move_reply : (bytes : List ℕ) (o q : Outcome) (t u : List ℕ) → IsMoveReply bytes o t → IsMoveReply bytes q u → (o ≡ q) ⊎ AreMoveEnds o q
one_move_reply bytes o q t u (inl h) (inl k) =
    one_moved_reply h.0 k.0 h.1 k.1 o q t u (ap (λ (m : Move). m.0) (ok_once (move_of bytes) (read_of k.0, k.1) (read_of h.0, h.1) k.2 h.2)) h.3 k.3
one_move_reply bytes o q t u (inl h) (inr k) = absurd (not_both (move_of bytes) (read_of h.0, h.1) k.0 h.2 k.1)
one_move_reply bytes o q t u (inr h) (inl k) = absurd (not_both (move_of bytes) (read_of k.0, k.1) h.0 k.2 h.1)
one_move_reply bytes o q t u (inr h) (inr k) =
    inl (h.2.0 ∙ ap (λ (f : FormatFault). variant.Format f.line f.kind) (err_once (move_of bytes) h.0 k.0 h.1 k.1) ∙ sym k.2.0)

-- ---- what the calls say makes a reply
module _ (listing : Listing) (second : List (List ℤ)) (file : File) (segment target : Problem) (cells : List Cell)
    (is_segment : segment ≡ segment_of listing second) (is_target : target ≡ plain_problem file) (is_file : file ≡ target_of listing second) (are_cells : cells ≡ listed_cells listing) where
  -- a move that found its cells
  pub are_moved : (found : List FoundCell) → AreMoved segment target cells found → Each (cells_of found) (IsMixedCell target) → AreMovedCells listing second found
  are_moved found h mixed =
      let same : target ≡ plain_problem (target_of listing second) = is_target ∙ ap plain_problem is_file in
      record {
        cells = subst (λ q. IsListOf (IsReached q (listed_cells listing)) (cells_of found)) is_segment (subst (λ cs. IsListOf (IsReached segment cs) (cells_of found)) are_cells h.cells);
        mixed = subst (λ q. Each found (λ (x : FoundCell). IsMixedCell q x.cell)) same (each_unmap (λ (x : FoundCell). x.cell) (IsMixedCell target) found mixed);
        normals = subst (λ q. Each found (HasLowestNormal q)) same h.normals;
      }

  -- one that halted
  pub has_halted : (cause : HaltCause) → IsMoveHalt segment target cells cause → IsMoveHalt (segment_of listing second) (plain_problem file) (listed_cells listing) cause
  has_halted cause h =
      subst (λ q. IsMoveHalt q (plain_problem file) (listed_cells listing) cause) is_segment
      (subst (λ q. IsMoveHalt segment q (listed_cells listing) cause) is_target (subst (λ cs. IsMoveHalt segment target cs cause) are_cells h))

  -- the whole answer
  pub carried_is : {X : Type 0} (items : X → List FoundCell) (r : Result X HaltCause) → MatchResult r (λ found. AreMoved segment target cells (items found)) (IsMoveHalt segment target cells)
      → IfOk r (λ found. Each (cells_of (items found)) (IsMixedCell target))
      → MatchResult r (λ found. AreMovedCells listing second (items found)) (IsMoveHalt (segment_of listing second) (plain_problem file) (listed_cells listing))
  carried_is items (Ok found) a m = are_moved (items found) a m
  carried_is items (Err cause) a m = has_halted cause a

-- a halt is told
pub tells_move : (listing : Listing) (second : List (List ℤ)) (file : File) (cause : HaltCause) (o : Outcome) (t : List ℕ) → file ≡ target_of listing second → IsRight listing
    → IsMoveHalt (segment_of listing second) (plain_problem file) (listed_cells listing) cause → TellsCause cause o t → IsMovedReply listing second o t
tells_move listing second file (Tie proof) o t e right h told = subst (λ q. IsMovedReply listing second q t) (sym told.0) (told.1, right, h)
tells_move listing second file (Overflow cell) o t e right h told =
    let k = subst (λ f. IsMoveHalt (segment_of listing second) (plain_problem f) (listed_cells listing) (Overflow cell)) e h in
    subst (λ q. IsMovedReply listing second q t) (sym told.0) (told.1, right, k)
tells_move listing second file OutOfMemory o t e right h told = absurd told

-- ---- no bytes are a problem file and a move file
no_cells : (counts : List ℕ) (end : ℕ) (x : List _ × List Row) → cells_through counts end [] ≡ Ok x → ⊥
unfolding cells_through part_at next_line
no_cells counts end x e = cc

no_rows : (rows : List Row) (u : Unit {0}) → no_line rows ≡ Ok u → rows ≡ []
unfolding no_line
no_rows [] u e = refl
no_rows (row ∷ rows) u e = absurd cc

pub not_a_problem : (bytes : List ℕ) (file : File) (m : Move) → problem_of bytes ≡ Ok file → move_of bytes ≡ Ok m → ⊥
unfolding problem_of move_of listing_at
not_a_problem bytes file m e f =
    let end = end_line_of bytes in
    let rows = lines_of bytes in
    let a = bind_ok (problem_at end rows) (λ x. no_line x.1 >>= λ ended. Ok x.0) file e in
    let b = bind_ok (no_line a.0.1) (λ ended. Ok a.0.0) file a.2 in
    let c = bind_ok (next_line first_header end rows) (λ header. listing_at end rows >>= λ listing. second_at (counts_of listing.0.0) end listing.1 >>= λ second. Ok (listing.0, second)) m f in
    let d = bind_ok (listing_at end rows) (λ listing. second_at (counts_of listing.0.0) end listing.1 >>= λ second. Ok (listing.0, second)) m c.2 in
    let g = bind_ok (problem_at end rows) (λ x. cells_through (counts_of x.0) end x.1 >>= λ cells. Ok ((x.0, cells.0), cells.1)) d.0 d.1 in
    let h = bind_ok (cells_through (counts_of g.0.0) end g.0.1) (λ cells. Ok ((g.0.0, cells.0), cells.1)) d.0 g.2 in
    let same : g.0 ≡ a.0 = ok_is g.0 a.0 (sym g.1 ∙ a.1) in
    no_cells (counts_of g.0.0) end h.0 (subst (λ r. cells_through (counts_of g.0.0) end r ≡ Ok h.0) (ap (λ (x : File × List Row). x.1) same ∙ no_rows a.0.1 b.0 b.1) h.1)

-- ---- the cells of a listing whose lines all pass
-- they rise
pub in_order : (listing : Listing) → IsValidFile listing.file → AreListed listing → IsRight listing → (cells : List Cell) → cells ≡ listed_cells listing → IsSorted cells
in_order listing valid listed right cells e = subst IsSorted (sym e) (right_mixed listing valid listed right).sorted

-- they are alive at time 0
pub all_begun : (listing : Listing) (second : List (List ℤ)) → IsValidFile listing.file → listing.file.version ≡ version1 → AreSecondHeights listing.file second → AreListed listing → IsRight listing
    → (p : Problem) (cells : List Cell) → p ≡ segment_of listing second → cells ≡ listed_cells listing → Each cells (λ cell. IsAlive p cell time_zero)
all_begun listing second valid first h listed right p cells e f =
    let all = each_map (λ (x : ListedCell). x.cell) (IsMixedCell (plain_problem listing.file)) listing.cells.items (right_mixed listing valid listed right).cells in
    let begun : Each (listed_cells listing) (λ cell. IsAlive (segment_of listing second) cell time_zero) =
    each_weaker (IsMixedCell (plain_problem listing.file)) (λ cell. IsAlive (segment_of listing second) cell time_zero) (listed_cells listing) (λ c m. (start_is listing.file second c valid first h).1 m) all in
    subst (λ q. Each cells (λ cell. IsAlive q cell time_zero)) (sym e) (subst (λ l. Each l (λ cell. IsAlive (segment_of listing second) cell time_zero)) (sym f) begun)

pub segment_is : (listing : Listing) (second : List (List ℤ)) (p : Problem) → AreSecondHeights listing.file second → p ≡ segment_of listing second → IsSegment p
segment_is listing second p h e = subst IsSegment (sym e) (between_segment listing.file second h.0)
