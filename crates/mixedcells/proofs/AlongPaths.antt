-- What the commands along a path reply, and what follows where a run of them ended.
use Rattle.std.proofs.Common.{◌≡◌, ◌⊎◌, ◌≤◌, ◌∙◌, ℕ, List, map, length, min, Option, Some, Bool, true, false, nat_le, IsTrue, arith, refl, sym, ap, ap₂, subst, inl, inr, Ok, Err}
use Rattle.std.proofs.lemmas.List.{length-map}
use Rattle.cayley.specs.Problems.{IsProblem}
use Rattle.cayley.specs.Cells.{Cell}
use Rattle.cayley.specs.Files.{File}
use Rattle.cayley.specs.Paths.{path}
use Rattle.cayley.specs.Valid.{IsValidFile}
use Rattle.cayley.specs.Ties.{IsTieFree}
use Rattle.cayley.specs.TieProofs.{spot_of, IsTieProofAtEnd}
use Rattle.cayley.specs.declared.found.FoundCell.{FoundCell}
use Rattle.cayley.specs.declared.found.TieProof.{TieProof}
use Rattle.cayley.proofs.Life.ShownTies.{shown_tie_law}
use Rattle.start_system.proofs.Making.ValidPaths.{path_valid}
use Rattle.support_text.specs.declared.fault.FormatFault.{FormatFault}
use Rattle.support_text.specs.ProblemText.{problem_of}
use Rattle.listing_text.specs.Listings.{IsListingOf}
use Rattle.listing_text.proofs.Formed.{meant_valid}
use Rattle.searcher.specs.declared.expansions.HaltCause.{HaltCause}
use Rattle.searcher.specs.declared.expansions.HaltCause.TheVariants.{Tie, Overflow, OutOfMemory}
use Rattle.searcher.specs.declared.searching.Found.{Found}
use Rattle.searcher.specs.declared.counting.Counted.{Counted}
use Rattle.lex_height.specs.Values as values
use Rattle.cayley.specs.Problems.{Problem}
use Rattle.plain_lister.specs.Choices.{HasTooMany, IsExcess}
use Rattle.plain_lister.specs.Lists.{AllFit}
use Rattle.plain_lister.specs.LeastTies.{IsLeastTie, IsLeastTiedOrUnfit}
use Rattle.cone_walls.specs.Workings.{FitsWallWorking}
use Rattle.mixedcells.specs.declared.words.Command.{Command}
use Rattle.mixedcells.specs.declared.words.Command.TheVariants as verb
use Rattle.mixedcells.specs.declared.outcome.Outcome.{Outcome}
use Rattle.mixedcells.specs.declared.outcome.Outcome.TheVariants as variant
use Rattle.mixedcells.specs.Words.{Means, IsWalking}
use Rattle.mixedcells.specs.Outcomes.{status_of, sum_lines, tie_free_line, too_many_line, overflow_cell, IsTieLine}
use Rattle.mixedcells.specs.Logs.{IsTracedText}
use Rattle.mixedcells.specs.Walks.{top_count, IsSafe, TreeFits, IsReachedListing, IsReachedSum, IsSumOf, IsTreeTie, IsTreeUnfit, IsWalkReply, IsTieReply}
use Rattle.mixedcells.specs.Journeys.{HasWalked, HasCounted, HasHalted, TellsCause}
use Rattle.mixedcells.specs.Answers.{limit, IsFileReply, IsAloneReply}
use Rattle.mixedcells.specs.Runs.{IsCalledFor, IsFree}
use Rattle.mixedcells.proofs.Readings.{ok_once, not_both}
use Rattle.mixedcells.proofs.Exact.{answer_of, reply_of, reply_not_long, free_or, known}
use Rattle.mixedcells.proofs.Walking.{free_of, all_mixed, all_reached}

-- ---- replies
-- a halt is told
pub tells_walk : (W : File → List ℕ → Type 0) (file : File) (cause : HaltCause) (o : Outcome) (t : List ℕ) → HasHalted file cause → TellsCause cause o t → IsWalkReply W file o t
tells_walk W file (Tie proof) o t h told = subst (λ q. IsWalkReply W file q t) (sym told.0) (told.1, h)
tells_walk W file (Overflow cell) o t h told = subst (λ q. IsWalkReply W file q t) (sym told.0) (told.1, h)
tells_walk W file OutOfMemory o t h told = absurd told

pub sum_written : (file : File) (counted : Counted) (text : List ℕ) → HasCounted file counted → text ≡ sum_lines counted.cells counted.solves → IsReachedSum file text
sum_written file counted text w f = (w.cells.0, w.tree.0, w.cells.1, w.tree.1, f ∙ ap₂ sum_lines w.cells.2 w.tree.2)

-- what was found, counted
pub found_counted : (file : File) (found : Found) (counted : Counted) → HasWalked file found → length found.cells.items ≤ top_count → counted.cells ≡ length found.cells.items → counted.solves ≡ found.solves
    → HasCounted file counted
found_counted file found counted w few e f =
    let long = length-map found.cells.items (λ (x : FoundCell). x.cell) in
    record {
      cells = (map (λ (x : FoundCell). x.cell) found.cells.items, w.cells.cells, omega (arith, e, long, few));
      tree = (w.tree.0, w.tree.1, f ∙ w.tree.2);
    }

-- ---- ties of a path
module _ (file : File) (p : Problem) (e : p ≡ path file) where
  pub free_reply : (text : List ℕ) → text ≡ tie_free_line → ¬ (HasTooMany p) → IsTieFree p → AllFit p → IsTieReply file variant.Ok text
  free_reply text t few free fit = (t, subst (λ q. ¬ (HasTooMany q)) e few, subst IsTieFree e free, subst AllFit e fit)

  pub tied_reply : (proof : TieProof) (o : Outcome) (text : List ℕ) → ¬ (HasTooMany p) → IsLeastTie p proof → values.IsLowest proof.time → (o ≡ variant.Tie proof) × IsTieLine proof text → IsTieReply file o text
  tied_reply proof o text few tie lowest told =
      subst (λ q. IsTieReply file q text) (sym told.0) (told.1, subst (λ q. ¬ (HasTooMany q)) e few, subst (λ q. IsLeastTie q proof) e tie, lowest)

  pub many_reply : (choices : ℕ) (text : List ℕ) → text ≡ too_many_line choices → HasTooMany p × IsExcess p choices → IsTieReply file (variant.TooMany choices) text
  many_reply choices text t h = (t, subst HasTooMany e h.0, subst (λ q. IsExcess q choices) e h.1)

  pub unfit_reply : (cell : Cell) (o : Outcome) (text : List ℕ) → ¬ (HasTooMany p) × IsLeastTiedOrUnfit p cell × ¬ (FitsWallWorking p cell) → (o ≡ variant.OverflowCell cell) × (text ≡ overflow_cell cell) → IsTieReply file o text
  unfit_reply cell o text h told =
      subst (λ q. IsTieReply file q text) (sym told.0) (told.1, subst (λ q. ¬ (HasTooMany q)) e h.0, subst (λ q. IsLeastTiedOrUnfit q cell) e h.1, subst (λ q. ¬ (FitsWallWorking q cell)) e h.2)

-- by one searcher a walk replies
pub alone_reply : (n : ℕ) (W : File → List ℕ → Type 0) (bytes : List ℕ) (o : Outcome) (t : List ℕ) → nat_le 2 n ≡ false → IsAloneReply n W bytes o t → IsFileReply (IsWalkReply W) bytes o t
alone_reply n W bytes o t e (inl h) = h.1
alone_reply n W bytes o t e (inr h) = contrary (nat_le 2 n) e h.0
  where
    contrary : {P : Type 0} (b : Bool) → b ≡ false → IsTrue b → P
    contrary true e f = cc
    contrary false e f = cc

-- a reply other than a fault of the format is said of the file
pub said : (IsSaid : File → Outcome → List ℕ → Type 0) (bytes : List ℕ) (o : Outcome) (t : List ℕ) → (status_of o ≡ 3 → ⊥) → IsFileReply IsSaid bytes o t
    → (file : File) × (problem_of bytes ≡ Ok file) × IsSaid file o t
said IsSaid bytes o t other (inl h) = h
said IsSaid bytes o t other (inr h) = absurd (other (ap status_of h.2.0))

-- a reply on bytes that mean a file is said of it
pub said_of : (IsSaid : File → Outcome → List ℕ → Type 0) (bytes : List ℕ) (file : File) (o : Outcome) (t : List ℕ) → problem_of bytes ≡ Ok file → IsFileReply IsSaid bytes o t → IsSaid file o t
said_of IsSaid bytes file o t e (inl h) = subst (λ f. IsSaid f o t) (ok_once (problem_of bytes) h.0 file h.1 e) h.2
said_of IsSaid bytes file o t e (inr h) = absurd (not_both (problem_of bytes) file h.0 e h.1)

-- ---- ends
-- where there is no tie none is told
no_told_tie : (file : File) → IsValidFile file → IsSafe file → (proof : TieProof) → IsTreeTie file proof → ⊥
no_told_tie file valid safe proof h =
    let shown = h.1.2.0 in
    let tie = shown_tie_law (path file) proof.cell h.1.0 _ _ (path_valid file valid).shape.problem shown in
    free_of file valid safe proof.cell h.1.0 tie.0 tie.1

walk_ok : (W : File → List ℕ → Type 0) (file : File) → IsValidFile file → IsSafe file → TreeFits file → (o : Outcome) (t : List ℕ) → IsWalkReply W file o t → o ≡ variant.Ok
walk_ok W file valid safe fits variant.Ok t h = refl
walk_ok W file valid safe fits (variant.Tie proof) t h = absurd (no_told_tie file valid safe proof h.1)
walk_ok W file valid safe fits (variant.OverflowCell cell) t h = absurd (h.1.1 (fits cell h.1.0))
walk_ok W file valid safe fits (variant.No line reason) t h = absurd h
walk_ok W file valid safe fits variant.Usage t h = absurd h
walk_ok W file valid safe fits (variant.Format line kind) t h = absurd h
walk_ok W file valid safe fits (variant.OverflowLine line) t h = absurd h
walk_ok W file valid safe fits variant.ReadFault t h = absurd h
walk_ok W file valid safe fits variant.WriteFault t h = absurd h
walk_ok W file valid safe fits variant.OutOfMemory t h = absurd h
walk_ok W file valid safe fits variant.TooLong t h = absurd h
walk_ok W file valid safe fits (variant.TooMany choices) t h = absurd h
walk_ok W file valid safe fits variant.NeedsTeam t h = absurd h

tie_or_none : (file : File) (o : Outcome) (t : List ℕ) → IsTieReply file o t → ¬ (HasTooMany (path file)) → AllFit (path file) → (o ≡ variant.Ok) ⊎ ((proof : TieProof) × (o ≡ variant.Tie proof))
tie_or_none file variant.Ok t h many fit = inl refl
tie_or_none file (variant.Tie proof) t h many fit = inr (proof, refl)
tie_or_none file (variant.TooMany choices) t h many fit = absurd (many h.1)
tie_or_none file (variant.OverflowCell cell) t h many fit = absurd (h.3 (fit cell h.2.0.0))
tie_or_none file (variant.No line reason) t h many fit = absurd h
tie_or_none file variant.Usage t h many fit = absurd h
tie_or_none file (variant.Format line kind) t h many fit = absurd h
tie_or_none file (variant.OverflowLine line) t h many fit = absurd h
tie_or_none file variant.ReadFault t h many fit = absurd h
tie_or_none file variant.WriteFault t h many fit = absurd h
tie_or_none file variant.OutOfMemory t h many fit = absurd h
tie_or_none file variant.TooLong t h many fit = absurd h
tie_or_none file variant.NeedsTeam t h many fit = absurd h

or_free : {P Q F : Type 0} → P ⊎ Q → P ⊎ Q ⊎ F
or_free (inl p) = inl p
or_free (inr q) = inr (inl q)

-- ---- runs
module _ (words : List (List ℕ)) (bytes : List ℕ) where
  list_reply : (n : ℕ) (o : Outcome) (t : List ℕ) → nat_le 2 n ≡ false → Means words (verb.List n) → (status_of o ≡ 9 → ⊥) → IsCalledFor words (Some bytes) o t → IsFileReply (IsWalkReply IsReachedListing) bytes o t
  list_reply n o t e means other h = alone_reply n IsReachedListing bytes o t e (reply_not_long (verb.List n) bytes o t other (answer_of words bytes (verb.List n) o t means h))

  sum_reply : (n : ℕ) (o : Outcome) (t : List ℕ) → nat_le 2 n ≡ false → Means words (verb.Sum n) → (status_of o ≡ 9 → ⊥) → IsCalledFor words (Some bytes) o t → IsFileReply (IsWalkReply IsReachedSum) bytes o t
  sum_reply n o t e means other h = alone_reply n IsReachedSum bytes o t e (reply_not_long (verb.Sum n) bytes o t other (answer_of words bytes (verb.Sum n) o t means h))

  trace_reply : (o : Outcome) (t : List ℕ) → Means words verb.Trace → (status_of o ≡ 9 → ⊥) → IsCalledFor words (Some bytes) o t → IsFileReply (IsWalkReply IsTracedText) bytes o t
  trace_reply o t means other h = reply_not_long verb.Trace bytes o t other (answer_of words bytes verb.Trace o t means h)

  -- `list` that ended Ok
  pub reached : (left : Option (List ℕ)) (o : Outcome) (t : List ℕ) → left ≡ Some bytes → Means words (verb.List 1) → o ≡ variant.Ok → IsCalledFor words left o t
      → (file : File) × (problem_of bytes ≡ Ok file) × IsReachedListing file t
  reached left o t e means ok h =
      let k = subst (λ q. IsCalledFor words (Some bytes) q t) ok (known words left bytes o t e h) in
      said (IsWalkReply IsReachedListing) bytes variant.Ok t (λ f. omega (arith, f)) (list_reply 1 variant.Ok t refl means (λ f. omega (arith, f)) k)

  -- `list` that ended Ok where there is no tie
  pub headline : (file : File) (left : Option (List ℕ)) (o : Outcome) (t : List ℕ) → left ≡ Some bytes → Means words (verb.List 1) → problem_of bytes ≡ Ok file → IsSafe file
      → o ≡ variant.Ok → IsCalledFor words left o t → IsListingOf file t
  headline file left o t e means f safe ok h =
      let r = reached left o t e means ok h in
      let l = subst (λ x. IsReachedListing x t) (ok_once (problem_of bytes) r.0 file r.1 f) r.2 in
      (l.0, all_reached file (meant_valid bytes file f) safe l.0 l.1, l.2)

  pub reached_sum : (left : Option (List ℕ)) (o : Outcome) (t : List ℕ) → left ≡ Some bytes → Means words (verb.Sum 1) → o ≡ variant.Ok → IsCalledFor words left o t
      → (file : File) × (problem_of bytes ≡ Ok file) × IsReachedSum file t
  reached_sum left o t e means ok h =
      let k = subst (λ q. IsCalledFor words (Some bytes) q t) ok (known words left bytes o t e h) in
      said (IsWalkReply IsReachedSum) bytes variant.Ok t (λ f. omega (arith, f)) (sum_reply 1 variant.Ok t refl means (λ f. omega (arith, f)) k)

  pub headline_sum : (file : File) (left : Option (List ℕ)) (o : Outcome) (t : List ℕ) → left ≡ Some bytes → Means words (verb.Sum 1) → problem_of bytes ≡ Ok file → IsSafe file
      → o ≡ variant.Ok → IsCalledFor words left o t → IsSumOf file t
  headline_sum file left o t e means f safe ok h =
      let r = reached_sum left o t e means ok h in
      let l = subst (λ x. IsReachedSum x t) (ok_once (problem_of bytes) r.0 file r.1 f) r.2 in
      (l.0, l.1, all_mixed file (meant_valid bytes file f) safe l.0 l.2, l.3, l.4)

  -- `trace` that ended Ok
  pub traced : (left : Option (List ℕ)) (o : Outcome) (t : List ℕ) → left ≡ Some bytes → Means words verb.Trace → o ≡ variant.Ok → IsCalledFor words left o t
      → (file : File) × (problem_of bytes ≡ Ok file) × IsTracedText file t
  traced left o t e means ok h =
      let k = subst (λ q. IsCalledFor words (Some bytes) q t) ok (known words left bytes o t e h) in
      said (IsWalkReply IsTracedText) bytes variant.Ok t (λ f. omega (arith, f)) (trace_reply variant.Ok t means (λ f. omega (arith, f)) k)

  -- a walk that ended so
  ended : (P : File → Type 0) (o : Outcome) (t : List ℕ) → (status_of o ≡ 9 → ⊥) → (status_of o ≡ 3 → ⊥)
      → ((W : File → List ℕ → Type 0) (file : File) → IsWalkReply W file o t → P file) → IsWalking words → IsCalledFor words (Some bytes) o t
      → (file : File) × (problem_of bytes ≡ Ok file) × P file
  ended P o t short form f (inl (n, e, inl means)) h = let s = said (IsWalkReply IsReachedListing) bytes o t form (list_reply n o t e means short h) in (s.0, s.1, f IsReachedListing s.0 s.2)
  ended P o t short form f (inl (n, e, inr means)) h = let s = said (IsWalkReply IsReachedSum) bytes o t form (sum_reply n o t e means short h) in (s.0, s.1, f IsReachedSum s.0 s.2)
  ended P o t short form f (inr means) h = let s = said (IsWalkReply IsTracedText) bytes o t form (trace_reply o t means short h) in (s.0, s.1, f IsTracedText s.0 s.2)

  pub tie_cause : (proof : TieProof) (left : Option (List ℕ)) (o : Outcome) (t : List ℕ) → left ≡ Some bytes → IsWalking words → o ≡ variant.Tie proof → IsCalledFor words left o t
      → (file : File) × (problem_of bytes ≡ Ok file) × IsTreeTie file proof
  tie_cause proof left o t e walks is h =
      ended (λ file. IsTreeTie file proof) (variant.Tie proof) t (λ f. omega (arith, f)) (λ f. omega (arith, f)) (λ W file r. r.1) walks
      (subst (λ q. IsCalledFor words (Some bytes) q t) is (known words left bytes o t e h))

  pub overflow_cause : (cell : Cell) (left : Option (List ℕ)) (o : Outcome) (t : List ℕ) → left ≡ Some bytes → IsWalking words → o ≡ variant.OverflowCell cell → IsCalledFor words left o t
      → (file : File) × (problem_of bytes ≡ Ok file) × IsTreeUnfit file cell
  overflow_cause cell left o t e walks is h =
      ended (λ file. IsTreeUnfit file cell) (variant.OverflowCell cell) t (λ f. omega (arith, f)) (λ f. omega (arith, f)) (λ W file r. r.1) walks
      (subst (λ q. IsCalledFor words (Some bytes) q t) is (known words left bytes o t e h))

  walk_said : (file : File) (o : Outcome) (t : List ℕ) → length bytes ≤ limit → problem_of bytes ≡ Ok file → IsSafe file → TreeFits file → IsWalking words → IsCalledFor words (Some bytes) o t → o ≡ variant.Ok
  walk_said file o t short f safe fits (inl (n, e, inl means)) h =
      walk_ok IsReachedListing file (meant_valid bytes file f) safe fits o t (said_of (IsWalkReply IsReachedListing) bytes file o t f
      (alone_reply n IsReachedListing bytes o t e (reply_of (verb.List n) bytes o t short (answer_of words bytes (verb.List n) o t means h))))
  walk_said file o t short f safe fits (inl (n, e, inr means)) h =
      walk_ok IsReachedSum file (meant_valid bytes file f) safe fits o t (said_of (IsWalkReply IsReachedSum) bytes file o t f
      (alone_reply n IsReachedSum bytes o t e (reply_of (verb.Sum n) bytes o t short (answer_of words bytes (verb.Sum n) o t means h))))
  walk_said file o t short f safe fits (inr means) h =
      walk_ok IsTracedText file (meant_valid bytes file f) safe fits o t (said_of (IsWalkReply IsTracedText) bytes file o t f
      (reply_of verb.Trace bytes o t short (answer_of words bytes verb.Trace o t means h)))

  -- a walk without a tie whose workings fit ends well, unless a free answer comes
  pub walked : (file : File) (result : Outcome) → length bytes ≤ limit → IsWalking words → problem_of bytes ≡ Ok file → IsSafe file → TreeFits file
      → (¬ (IsFree result) → (t : List ℕ) × IsCalledFor words (Some bytes) result t) → (result ≡ variant.Ok) ⊎ IsFree result
  walked file result short walks f safe fits called = elim (free_or result) [
    | inl free ↦ inr free
    | inr other ↦ let k = called other in inl (walk_said file result k.0 short f safe fits walks k.1)
  ]

  -- `generic` that ended Ok
  pub tie_free : (file : File) (left : Option (List ℕ)) (o : Outcome) (t : List ℕ) → left ≡ Some bytes → Means words verb.Generic → problem_of bytes ≡ Ok file → o ≡ variant.Ok
      → IsCalledFor words left o t → IsSafe file
  tie_free file left o t e means f ok h =
      let k = subst (λ q. IsCalledFor words (Some bytes) q t) ok (known words left bytes o t e h) in
      inr (said_of IsTieReply bytes file variant.Ok t f (reply_not_long verb.Generic bytes variant.Ok t (λ g. omega (arith, g)) (answer_of words bytes verb.Generic variant.Ok t means k))).2

  -- `generic` on few choices whose workings fit finds a tie or none, unless a free answer comes
  pub judged_ties : (file : File) (result : Outcome) → length bytes ≤ limit → Means words verb.Generic → problem_of bytes ≡ Ok file → ¬ (HasTooMany (path file)) → AllFit (path file)
      → (¬ (IsFree result) → (t : List ℕ) × IsCalledFor words (Some bytes) result t) → (result ≡ variant.Ok) ⊎ ((proof : TieProof) × (result ≡ variant.Tie proof)) ⊎ IsFree result
  judged_ties file result short means f many fit called = elim (free_or result) [
    | inl free ↦ inr (inr free)
    | inr other ↦ let k = called other in
        or_free (tie_or_none file result k.0 (said_of IsTieReply bytes file result k.0 f (reply_of verb.Generic bytes result k.0 short (answer_of words bytes verb.Generic result k.0 means k.1))) many fit)
  ]
