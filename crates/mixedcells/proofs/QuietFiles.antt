-- In the quiet profile every working fits: no command says that a cell doesn't, a walk ends well, and a written listing passes.
use Rattle.std.proofs.Common.{◌≡◌, ◌⊎◌, ◌≤◌, ◌∙◌, ◌∷◌, [], ℕ, List, length, ℤ, pos, Option, None, Some, Ok, arith, refl, sym, ap, subst, inl, inr}
use Rattle.int_vectors.specs.Vectors.{Each}
use Rattle.reduced_rows.specs.Denominators.{shares}
use Rattle.cayley.specs.Problems.{Problem, point_at}
use Rattle.cayley.specs.Cells.{Cell, IsOf}
use Rattle.cayley.specs.Files.{File, plain_problem}
use Rattle.cayley.specs.Paths.{path, start_cell}
use Rattle.cayley.specs.Mixed.{IsMixedCell, IsLowestNormal}
use Rattle.cayley.specs.Valid.{IsValidFile}
use Rattle.cayley.proofs.Ranking.PlainProblems.{plain_valid}
use Rattle.cayley.proofs.Searching.Chains.{chain_of}
use Rattle.cayley.proofs.Lists.Pairs.{pairs_map}
use Rattle.start_system.proofs.Started.SearchLaws.{path_law}
use Rattle.inner_normal.specs.Workings.{denominator}
use Rattle.inner_normal.proofs.Meaning.{reduced_of}
use Rattle.cone_walls.specs.Numbers.{FitsWall}
use Rattle.cone_walls.specs.Workings.{normal_of_rows}
use Rattle.searcher.specs.Workings.{FitsWorking}
use Rattle.plain_lister.specs.Lists.{AllFit}
use Rattle.support_text.specs.ProblemText.{problem_of}
use Rattle.listing_text.specs.declared.listing.Listing.{Listing}
use Rattle.listing_text.specs.declared.listing.ListedCell.{ListedCell}
use Rattle.listing_text.proofs.Formed.{meant_valid}
use Rattle.cell_certificate.specs.Sums.{FitsRise, FitsOwn}
use Rattle.cell_certificate.specs.Judgements.{FirstRefused}
use Rattle.cell_certificate.proofs.WorkedSums.{FitsOwnReduced, own_fits}
use Rattle.cell_bound.specs.Quiet.{IsQuiet}
use Rattle.cell_bound.specs.OwnLines.{FitOwnLines}
use Rattle.cell_bound.proofs.SmallFiles as small
use Rattle.mixedcells.specs.declared.words.Command.{Command}
use Rattle.mixedcells.specs.declared.words.Command.TheVariants as verb
use Rattle.mixedcells.specs.declared.outcome.Outcome.{Outcome}
use Rattle.mixedcells.specs.declared.outcome.Outcome.TheVariants as variant
use Rattle.mixedcells.specs.Words.{Means}
use Rattle.mixedcells.specs.Outcomes.{status_of}
use Rattle.mixedcells.specs.Logs.{IsTracedText}
use Rattle.mixedcells.specs.Walks.{TreeFits, IsReachedListing, IsReachedSum, IsWalkReply, IsTieReply}
use Rattle.mixedcells.specs.Answers.{limit, IsListReply, IsFileReply, IsAloneReply, IsListingText, IsCheckReply, IsPowersReply, IsMoveReply, IsLogReply, IsSystemReply, IsReply}
use Rattle.mixedcells.specs.Runs.{IsAnswer, IsCalledFor, IsFree, IsWrittenListing, IsSpared, Passes, Finishes}
use Rattle.mixedcells.proofs.Checks.{read_of}
use Rattle.mixedcells.proofs.MoveReplies.{not_a_problem}
use Rattle.mixedcells.proofs.Exact.{answer_of, free_or, known}
use Rattle.mixedcells.proofs.FileWorkings.{path_of, plain_fits, plain_own}
use Rattle.mixedcells.proofs.Spared.{alive, well, long, level, same_file, spared_listing, spared}
use Rattle.mixedcells.proofs.Walking.{path_searched}
use Rattle.mixedcells.proofs.AlongPaths.{said_of}

-- ---- workings
-- a cell of the path tree is one of the path
module _ (file : File) (valid : IsValidFile file) (quiet : IsQuiet file) where
  path_fits : (cell : Cell) → IsOf (path file) cell → FitsWorking (path file) cell
  path_fits cell of = small.quiet file valid quiet cell of

  pub tree_fits : TreeFits file
  tree_fits cell t = path_fits cell (chain_of (path file) (start_cell (path file)) cell (path_searched file valid).of t.1)

  all_path_fit : AllFit (path file)
  all_path_fit cell of = let w = path_fits cell of in (w.0, λ made e. (w.1 made e).0)

  all_plain_fit : AllFit (plain_problem file)
  all_plain_fit cell of = plain_fits file valid cell (subst (λ q. IsOf q cell) (sym (path_law file valid).2) of) (path_fits cell (path_of file valid cell of))

  -- the sums of the pairs' own second points, under the normal that the elimination gives
  own_reduced : (cell : Cell) → IsOf (plain_problem file) cell → FitsOwnReduced (plain_problem file) cell
  own_reduced cell of = λ made e.
      let p = plain_problem file in
      let lines : FitOwnLines p cell = plain_own file valid cell (subst (λ q. IsOf q cell) (sym (path_law file valid).2) of) (small.quiet_own file valid quiet cell (path_of file valid cell of)) in
      subst (λ k. FitsOwn p cell (shares k 0 (denominator made) made) (pos (denominator made))) (reduced_of p cell (plain_valid file valid).shape.problem of made ((all_plain_fit cell of).0, e)).count
      (pairs_map p.supports cell (λ s a b. FitsWall (normal_of_rows made) (point_at s a) (point_at s b)) (λ s a b. FitsRise (pos (denominator made)) (shares (length made) 0 (denominator made) made) (point_at s a) (point_at s b)) (λ s a b f. f.0) (lines made e))

  line_own : (cell : Cell) (v : List ℤ) (den : ℤ) → IsMixedCell (plain_problem file) cell → IsLowestNormal (plain_problem file) cell v den → FitsOwn (plain_problem file) cell v den
  line_own cell v den m n =
      let a = alive file valid cell v den m n in
      own_fits (plain_problem file) cell (well file valid cell v den m n) a.0 a.1 den v (long file valid cell v den m n) n.0 n.1 (level file valid cell v den m n) (own_reduced cell a.0)

  each_own : (lines : List ListedCell) → Each lines (λ x. IsMixedCell (plain_problem file) x.cell) → Each lines (λ x. IsLowestNormal (plain_problem file) x.cell x.normal.v x.normal.den)
      → Each lines (λ x. FitsOwn (plain_problem file) x.cell x.normal.v x.normal.den)
  each_own [] m n = tt
  each_own (x ∷ lines) m n = (line_own x.cell x.normal.v x.normal.den m.0 n.0, each_own lines m.1 n.1)

-- ---- replies

never_own : (p : Problem) (before : Option Cell) (lines : List ListedCell) (number : ℕ) → Each lines (λ x. FitsOwn p x.cell x.normal.v x.normal.den)
    → FirstRefused p before lines (λ before x. (x.line ≡ number) × ¬ (FitsOwn p x.cell x.normal.v x.normal.den)) → ⊥
never_own p before [] number f r = r
never_own p before (x ∷ lines) number f (inl r) = r.1 f.0
never_own p before (x ∷ lines) number f (inr r) = never_own p (Some x.cell) lines number f.1 r.1

alone_fits : (n : ℕ) (W : File → List ℕ → Type 0) (bytes t : List ℕ) (cell : Cell) → (IsFileReply (IsWalkReply W) bytes (variant.OverflowCell cell) t → ⊥) → IsAloneReply n W bytes (variant.OverflowCell cell) t → ⊥
alone_fits n W bytes t cell f (inl h) = f h.1
alone_fits n W bytes t cell f (inr h) = let e = ap status_of h.1 in omega (arith, e)

check_fits : (bytes t : List ℕ) (cell : Cell) → IsCheckReply bytes (variant.OverflowCell cell) t → ⊥
check_fits bytes t cell (inl h) = h.2
check_fits bytes t cell (inr h) = let e = ap status_of h.2.0 in omega (arith, e)

powers_fit : (bytes t : List ℕ) (cell : Cell) → IsPowersReply bytes (variant.OverflowCell cell) t → ⊥
powers_fit bytes t cell (inl h) = h.2
powers_fit bytes t cell (inr h) = let e = ap status_of h.2.0 in omega (arith, e)

log_fits : (bytes t : List ℕ) (cell : Cell) → IsLogReply bytes (variant.OverflowCell cell) t → ⊥
log_fits bytes t cell (inl h) = h.2
log_fits bytes t cell (inr h) = let e = ap status_of h.2.0 in omega (arith, e)

system_fits : (seed : ℕ) (bytes t : List ℕ) (cell : Cell) → IsSystemReply seed bytes (variant.OverflowCell cell) t → ⊥
system_fits seed bytes t cell (inl h) = let e = ap status_of h.2 in omega (arith, e)
system_fits seed bytes t cell (inr h) = let e = ap status_of h.2.0 in omega (arith, e)

module _ (bytes : List ℕ) (file : File) (means : problem_of bytes ≡ Ok file) (quiet : IsQuiet file) where
  valid_file : IsValidFile file
  valid_file = meant_valid bytes file means

  pub meant_tree_fits : TreeFits file
  meant_tree_fits = tree_fits file valid_file quiet

  walk_fits : (W : File → List ℕ → Type 0) (t : List ℕ) (cell : Cell) → IsFileReply (IsWalkReply W) bytes (variant.OverflowCell cell) t → ⊥
  walk_fits W t cell r = let h = said_of (IsWalkReply W) bytes file (variant.OverflowCell cell) t means r in h.1.1 (meant_tree_fits cell h.1.0)

  -- a problem file is no move file
  move_fits : (t : List ℕ) (cell : Cell) → IsMoveReply bytes (variant.OverflowCell cell) t → ⊥
  move_fits t cell (inl h) = not_a_problem bytes file (read_of h.0, h.1) means h.2
  move_fits t cell (inr h) = let e = ap status_of h.2.0 in omega (arith, e)

  reply_fits : (command : Command) (t : List ℕ) (cell : Cell) → IsReply command bytes (variant.OverflowCell cell) t → ⊥
  reply_fits verb.Plain t cell r = let h = said_of IsListReply bytes file (variant.OverflowCell cell) t means r in h.2.1 (all_plain_fit file valid_file quiet cell h.2.0)
  reply_fits (verb.List n) t cell r = alone_fits n IsReachedListing bytes t cell (walk_fits IsReachedListing t cell) r
  reply_fits (verb.Sum n) t cell r = alone_fits n IsReachedSum bytes t cell (walk_fits IsReachedSum t cell) r
  reply_fits verb.Check t cell r = check_fits bytes t cell r
  reply_fits verb.Generic t cell r = let h = said_of IsTieReply bytes file (variant.OverflowCell cell) t means r in h.3 (all_path_fit file valid_file quiet cell h.2.0.0)
  reply_fits verb.Move t cell r = move_fits t cell r
  reply_fits verb.Trace t cell r = walk_fits IsTracedText t cell r
  reply_fits verb.Verify t cell r = log_fits bytes t cell r
  reply_fits verb.Powers t cell r = powers_fit bytes t cell r
  reply_fits (verb.Poly seed) t cell r = system_fits seed bytes t cell r
  reply_fits (verb.Make family seed) t cell r = let e = ap status_of r.0 in omega (arith, e)

  answer_fits : (command : Command) (t : List ℕ) (cell : Cell) → IsAnswer command bytes (variant.OverflowCell cell) t → ⊥
  answer_fits command t cell (inl l) = let e = ap status_of l.1 in omega (arith, e)
  answer_fits command t cell (inr r) = reply_fits command t cell r.1

  called_fits : (words : List (List ℕ)) (t : List ℕ) (cell : Cell) → IsCalledFor words (Some bytes) (variant.OverflowCell cell) t → ⊥
  called_fits words t cell (inl h) = let e = ap status_of h.1 in omega (arith, e)
  called_fits words t cell (inr h) = answer_fits h.0 t cell (subst (λ b. IsAnswer h.0 b (variant.OverflowCell cell) t) (sym h.3) h.4)

  -- what is called for is never that a cell doesn't fit
  pub never_unfit : (words : List (List ℕ)) (left : Option (List ℕ)) (o : Outcome) (t : List ℕ) (cell : Cell) → left ≡ Some bytes → IsCalledFor words left o t → o ≡ variant.OverflowCell cell → ⊥
  never_unfit words left o t cell e h is = called_fits words t cell (subst (λ q. IsCalledFor words (Some bytes) q t) is (known words left bytes o t e h))

-- usage is no such answer
pub usage_fits : (old new : Option (List ℕ)) (before now : ℕ) (text : List ℕ) (result : Outcome) (cell : Cell) → Finishes old new before now text variant.Usage result → result ≡ variant.OverflowCell cell → ⊥
usage_fits old new before now text result cell (inl h) e = let f = ap status_of (sym h.0 ∙ e) in omega (arith, f)
usage_fits old new before now text result cell (inr h) e = let f = ap status_of (sym h.0 ∙ e) in omega (arith, f)

-- ---- a written listing
module _ (bytes : List ℕ) (file : File) (w : IsWrittenListing file bytes) (quiet : IsQuiet file) where
  own_absurd : (short : length bytes ≤ limit) (listing : Listing) (line : ℕ) → IsListingText bytes listing
      → FirstRefused (plain_problem listing.file) None listing.cells.items (λ before x. (x.line ≡ line) × ¬ (FitsOwn (plain_problem listing.file) x.cell x.normal.v x.normal.den)) → ⊥
  own_absurd short listing line text r =
      let e = same_file bytes file w short listing text in
      let written = spared_listing bytes file w short listing text in
      never_own (plain_problem listing.file) None listing.cells.items line
      (each_own listing.file (subst IsValidFile e (meant_valid w.0 file w.2)) (subst IsQuiet e quiet) listing.cells.items written.mixed.cells written.mixed.normals) r

  spared_passes : length bytes ≤ limit → (o : Outcome) → IsSpared bytes o → o ≡ variant.Ok
  spared_passes short o (inl e) = e
  spared_passes short o (inr (inl h)) = absurd (own_absurd short h.0 h.1 h.2 h.3)
  spared_passes short o (inr (inr h)) = absurd (let l = h.0 in omega (arith, short, l))

  answer_passes : (o : Outcome) (t : List ℕ) → IsAnswer verb.Check bytes o t → Passes bytes o
  answer_passes o t (inl l) = inr (l.0.1, l.1)
  answer_passes o t (inr r) = inl (spared_passes (r.0 refl) o (spared bytes file w (r.0 refl) o t r.1))

  -- it passes, unless a free answer comes
  pub passes : (words : List (List ℕ)) → Means words verb.Check → (result : Outcome) → (¬ (IsFree result) → (t : List ℕ) × IsCalledFor words (Some bytes) result t) → Passes bytes result ⊎ IsFree result
  passes words means result f = elim (free_or result) [
    | inl free ↦ inr free
    | inr other ↦ let k = f other in inl (answer_passes result k.0 (answer_of words bytes verb.Check result k.0 means k.1))
  ]
