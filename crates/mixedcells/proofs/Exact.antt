-- What the words and the input call for is one outcome.
use Rattle.std.proofs.Common.{◌≡◌, ◌⊎◌, ℕ, ◌≤◌, ◌∙◌, List, length, Option, None, Some, Result, Ok, Err, IsTrue, false, nat_le, take, refl, sym, ap, subst, arith, inl, inr}
use Rattle.cayley.specs.Problems.{Problem}
use Rattle.cayley.specs.Cells.{Cell}
use Rattle.cayley.specs.Files.{File, plain_problem}
use Rattle.cayley.proofs.Searching.Listing.{compare_cells, three_ways}
use Rattle.support_text.specs.declared.fault.FormatFault.{FormatFault}
use Rattle.support_text.specs.ProblemText.{problem_of}
use Rattle.listing_text.specs.Listings.{IsListingOf}
use Rattle.listing_text.specs.declared.listing.Listing.{Listing}
use Rattle.cell_certificate.specs.Answers.{IsRight}
use Rattle.homotopy_rows.specs.Answers.{IsPowersText}
use Rattle.plain_lister.specs.Choices.{IsExcess, HasTooMany, product, pair_counts}
use Rattle.plain_lister.specs.Lists.{IsFirstUnfit, AllFit}
use Rattle.plain_lister.specs.LeastTies.{IsLeastTie, IsLeastTiedOrUnfit}
use Rattle.plain_lister.specs.declared.faults.PlainFault.{PlainFault}
use Rattle.plain_lister.specs.declared.faults.PlainFault.TheVariants.{TooMany, Overflow, OutOfMemory}
use Rattle.cone_walls.specs.Workings.{FitsWallWorking}
use Rattle.cayley.specs.declared.found.TieProof.{TieProof}
use Rattle.cayley.specs.Paths.{path}
use Rattle.cayley.specs.Ties.{IsTieFree}
use Rattle.mixedcells.specs.declared.words.meaning.Family.{Family}
use Rattle.mixedcells.specs.declared.words.Command.{Command}
use Rattle.mixedcells.specs.declared.words.Command.TheVariants as verb
use Rattle.mixedcells.specs.declared.outcome.Outcome.{Outcome}
use Rattle.mixedcells.specs.declared.outcome.Outcome.TheVariants as variant
use Rattle.mixedcells.specs.Words.{Means}
use Rattle.mixedcells.specs.Outcomes.{status_of}
use Rattle.mixedcells.specs.Logs.{IsTracedText}
use Rattle.mixedcells.specs.Walks.{IsReachedListing, IsReachedSum, IsWalkReply, IsTieReply}
use Rattle.mixedcells.specs.Answers.{limit, IsListReply, IsFileReply, IsListingText, IsPlainReply, IsAloneReply, IsPowersReply, IsMadeReply, IsReply}
use Rattle.mixedcells.specs.Runs.{IsAnswer, IsCalledFor, IsFree, IsWalkEnd, AreTiesOfOne, AreLoose}
use Rattle.mixedcells.proofs.CommandLine.Words.{one_meaning}
use Rattle.mixedcells.proofs.Readings.{ok_once, err_once, not_both}
use Rattle.mixedcells.proofs.Checks.{one_check_reply}
use Rattle.mixedcells.proofs.Powered.{one_powers_reply}
use Rattle.mixedcells.proofs.MoveReplies.{one_move_reply}
use Rattle.mixedcells.proofs.LogReplies.{one_log_reply}
use Rattle.mixedcells.proofs.SystemReplies.{one_system_reply}
use Rattle.mixedcells.proofs.Teams.{unlike}

one_excess : (p : Problem) (c d : ℕ) → IsExcess p c → IsExcess p d → c ≡ d
one_excess p c d h k =
    three_ways h.1.0 k.1.0
    (λ l. absurd (let e = k.1.2 h.1.0 l in let a = h.1.1 in let b = h.0 in omega (arith, e, a, b)))
    (λ e. sym h.1.1 ∙ ap (λ n. product (take n (pair_counts p.supports))) e ∙ k.1.1)
    (λ l. absurd (let e = h.1.2 k.1.0 l in let a = k.1.1 in let b = k.0 in omega (arith, e, a, b)))

one_unfit : (p : Problem) (x y : Cell) → IsFirstUnfit p x → IsFirstUnfit p y → x ≡ y
one_unfit p x y h k = elim (compare_cells x y) [
  | inl l ↦ absurd (h.1 (k.2 x h.0 l))
  | inr q ↦ elim q [ inl e ↦ e | inr l ↦ absurd (k.1 (h.2 y k.0 l)) ]
]

one_list_reply : (file : File) (o q : Outcome) (t u : List ℕ) → IsListReply file o t → IsListReply file q u → o ≡ q
one_list_reply file (variant.No line reason) q t u h k = absurd h
one_list_reply file variant.Usage q t u h k = absurd h
one_list_reply file (variant.Format line kind) q t u h k = absurd h
one_list_reply file (variant.OverflowLine line) q t u h k = absurd h
one_list_reply file variant.ReadFault q t u h k = absurd h
one_list_reply file variant.WriteFault q t u h k = absurd h
one_list_reply file variant.OutOfMemory q t u h k = absurd h
one_list_reply file variant.TooLong q t u h k = absurd h
one_list_reply file (variant.Tie proof) q t u h k = absurd h
one_list_reply file variant.NeedsTeam q t u h k = absurd h
one_list_reply file variant.Ok variant.Ok t u h k = refl
one_list_reply file variant.Ok (variant.No line' reason') t u h k = absurd k
one_list_reply file variant.Ok (variant.Tie proof') t u h k = absurd k
one_list_reply file variant.Ok variant.NeedsTeam t u h k = absurd k
one_list_reply file variant.Ok variant.Usage t u h k = absurd k
one_list_reply file variant.Ok (variant.Format line' kind') t u h k = absurd k
one_list_reply file variant.Ok (variant.OverflowCell cell') t u h k = absurd (k.2.1 (h.1 cell' k.2.0))
one_list_reply file variant.Ok (variant.OverflowLine line') t u h k = absurd k
one_list_reply file variant.Ok variant.ReadFault t u h k = absurd k
one_list_reply file variant.Ok variant.WriteFault t u h k = absurd k
one_list_reply file variant.Ok variant.OutOfMemory t u h k = absurd k
one_list_reply file variant.Ok variant.TooLong t u h k = absurd k
one_list_reply file variant.Ok (variant.TooMany choices') t u h k = absurd (h.0 k.1)
one_list_reply file (variant.TooMany choices) variant.Ok t u h k = absurd (k.0 h.1)
one_list_reply file (variant.TooMany choices) (variant.No line' reason') t u h k = absurd k
one_list_reply file (variant.TooMany choices) (variant.Tie proof') t u h k = absurd k
one_list_reply file (variant.TooMany choices) variant.NeedsTeam t u h k = absurd k
one_list_reply file (variant.TooMany choices) variant.Usage t u h k = absurd k
one_list_reply file (variant.TooMany choices) (variant.Format line' kind') t u h k = absurd k
one_list_reply file (variant.TooMany choices) (variant.OverflowCell cell') t u h k = absurd (k.1 h.1)
one_list_reply file (variant.TooMany choices) (variant.OverflowLine line') t u h k = absurd k
one_list_reply file (variant.TooMany choices) variant.ReadFault t u h k = absurd k
one_list_reply file (variant.TooMany choices) variant.WriteFault t u h k = absurd k
one_list_reply file (variant.TooMany choices) variant.OutOfMemory t u h k = absurd k
one_list_reply file (variant.TooMany choices) variant.TooLong t u h k = absurd k
one_list_reply file (variant.TooMany choices) (variant.TooMany choices') t u h k = ap variant.TooMany (one_excess (plain_problem file) choices choices' h.2 k.2)
one_list_reply file (variant.OverflowCell cell) variant.Ok t u h k = absurd (h.2.1 (k.1 cell h.2.0))
one_list_reply file (variant.OverflowCell cell) (variant.No line' reason') t u h k = absurd k
one_list_reply file (variant.OverflowCell cell) (variant.Tie proof') t u h k = absurd k
one_list_reply file (variant.OverflowCell cell) variant.NeedsTeam t u h k = absurd k
one_list_reply file (variant.OverflowCell cell) variant.Usage t u h k = absurd k
one_list_reply file (variant.OverflowCell cell) (variant.Format line' kind') t u h k = absurd k
one_list_reply file (variant.OverflowCell cell) (variant.OverflowCell cell') t u h k = ap variant.OverflowCell (one_unfit (plain_problem file) cell cell' h.2 k.2)
one_list_reply file (variant.OverflowCell cell) (variant.OverflowLine line') t u h k = absurd k
one_list_reply file (variant.OverflowCell cell) variant.ReadFault t u h k = absurd k
one_list_reply file (variant.OverflowCell cell) variant.WriteFault t u h k = absurd k
one_list_reply file (variant.OverflowCell cell) variant.OutOfMemory t u h k = absurd k
one_list_reply file (variant.OverflowCell cell) variant.TooLong t u h k = absurd k
one_list_reply file (variant.OverflowCell cell) (variant.TooMany choices') t u h k = absurd (h.1 k.1)

-- ---- ends of a walk
walk_end : (W : File → List ℕ → Type 0) (file : File) (o : Outcome) (t : List ℕ) → IsWalkReply W file o t → IsWalkEnd o
walk_end W file variant.Ok t h = inl refl
walk_end W file (variant.Tie proof) t h = inr (inl (proof, refl))
walk_end W file (variant.OverflowCell cell) t h = inr (inr (cell, refl))
walk_end W file (variant.No line reason) t h = absurd h
walk_end W file variant.Usage t h = absurd h
walk_end W file (variant.Format line kind) t h = absurd h
walk_end W file (variant.OverflowLine line) t h = absurd h
walk_end W file variant.ReadFault t h = absurd h
walk_end W file variant.WriteFault t h = absurd h
walk_end W file variant.OutOfMemory t h = absurd h
walk_end W file variant.TooLong t h = absurd h
walk_end W file (variant.TooMany choices) t h = absurd h
walk_end W file variant.NeedsTeam t h = absurd h

-- ---- ties of a path
abbrev TieAnswer : Type 0
TieAnswer = Result (Option TieProof) PlainFault

abbrev tie_outcome : TieAnswer → Outcome
tie_outcome (Ok None) = variant.Ok
tie_outcome (Ok (Some proof)) = variant.Tie proof
tie_outcome (Err (TooMany choices)) = variant.TooMany choices
tie_outcome (Err (Overflow cell)) = variant.OverflowCell cell
tie_outcome (Err OutOfMemory) = variant.OutOfMemory

abbrev IsTieAnswer : Problem → TieAnswer → Type 0
IsTieAnswer p (Ok None) = ¬ (HasTooMany p) × IsTieFree p × AllFit p
IsTieAnswer p (Ok (Some proof)) = ¬ (HasTooMany p) × IsLeastTie p proof
IsTieAnswer p (Err (TooMany choices)) = HasTooMany p × IsExcess p choices
IsTieAnswer p (Err (Overflow cell)) = ¬ (HasTooMany p) × IsLeastTiedOrUnfit p cell × ¬ (FitsWallWorking p cell)
IsTieAnswer p (Err OutOfMemory) = ⊥

tie_answer : (file : File) (o : Outcome) (t : List ℕ) → IsTieReply file o t → (r : TieAnswer) × IsTieAnswer (path file) r × (o ≡ tie_outcome r)
tie_answer file variant.Ok t h = (Ok None, (h.1, h.2, h.3), refl)
tie_answer file (variant.Tie proof) t h = (Ok (Some proof), (h.1, h.2), refl)
tie_answer file (variant.TooMany choices) t h = (Err (TooMany choices), (h.1, h.2), refl)
tie_answer file (variant.OverflowCell cell) t h = (Err (Overflow cell), (h.1, h.2, h.3), refl)
tie_answer file (variant.No line reason) t h = absurd h
tie_answer file variant.Usage t h = absurd h
tie_answer file (variant.Format line kind) t h = absurd h
tie_answer file (variant.OverflowLine line) t h = absurd h
tie_answer file variant.ReadFault t h = absurd h
tie_answer file variant.WriteFault t h = absurd h
tie_answer file variant.OutOfMemory t h = absurd h
tie_answer file variant.TooLong t h = absurd h
tie_answer file variant.NeedsTeam t h = absurd h

one_least : (p : Problem) (x y : Cell) → IsLeastTiedOrUnfit p x → IsLeastTiedOrUnfit p y → x ≡ y
one_least p x y h k = elim (compare_cells x y) [
  | inl l ↦ absurd (k.1 x h.0 l)
  | inr q ↦ elim q [ inl e ↦ e | inr l ↦ absurd (h.1 y k.0 l) ]
]

-- where all fits and nothing is tied there is no least cell
none_least : (p : Problem) (cell : Cell) → IsTieFree p → AllFit p → IsLeastTiedOrUnfit p cell → ⊥
none_least p cell free fit h = elim h.0.1 [
  | inl tie ↦ free cell tie.0 tie.1 tie.2
  | inr unfit ↦ unfit (fit cell h.0.0)
]

one_tie : (p : Problem) (r s : TieAnswer) → IsTieAnswer p r → IsTieAnswer p s → (tie_outcome r ≡ tie_outcome s) ⊎ AreTiesOfOne (tie_outcome r) (tie_outcome s)
one_tie p (Ok None) (Ok None) h k = inl refl
one_tie p (Ok None) (Ok (Some proof)) h k = absurd (none_least p proof.cell h.1 h.2 k.1.0)
one_tie p (Ok None) (Err (TooMany choices)) h k = absurd (h.0 k.0)
one_tie p (Ok None) (Err (Overflow cell)) h k = absurd (none_least p cell h.1 h.2 k.1)
one_tie p (Ok (Some proof)) (Ok None) h k = absurd (none_least p proof.cell k.1 k.2 h.1.0)
one_tie p (Ok (Some proof)) (Ok (Some other)) h k = inr (proof, other, refl, refl, one_least p proof.cell other.cell h.1.0 k.1.0)
one_tie p (Ok (Some proof)) (Err (TooMany choices)) h k = absurd (h.0 k.0)
one_tie p (Ok (Some proof)) (Err (Overflow cell)) h k = absurd (k.2 (subst (FitsWallWorking p) (one_least p proof.cell cell h.1.0 k.1) h.1.1))
one_tie p (Err (TooMany choices)) (Ok None) h k = absurd (k.0 h.0)
one_tie p (Err (TooMany choices)) (Ok (Some proof)) h k = absurd (k.0 h.0)
one_tie p (Err (TooMany choices)) (Err (TooMany other)) h k = inl (ap variant.TooMany (one_excess p choices other h.1 k.1))
one_tie p (Err (TooMany choices)) (Err (Overflow cell)) h k = absurd (k.0 h.0)
one_tie p (Err (Overflow cell)) (Ok None) h k = absurd (none_least p cell k.1 k.2 h.1)
one_tie p (Err (Overflow cell)) (Ok (Some proof)) h k = absurd (h.2 (subst (FitsWallWorking p) (one_least p proof.cell cell k.1.0 h.1) k.1.1))
one_tie p (Err (Overflow cell)) (Err (TooMany choices)) h k = absurd (h.0 k.0)
one_tie p (Err (Overflow cell)) (Err (Overflow other)) h k = inl (ap variant.OverflowCell (one_least p cell other h.1 k.1))
one_tie p (Err OutOfMemory) s h k = absurd h
one_tie p (Ok None) (Err OutOfMemory) h k = absurd k
one_tie p (Ok (Some proof)) (Err OutOfMemory) h k = absurd k
one_tie p (Err (TooMany choices)) (Err OutOfMemory) h k = absurd k
one_tie p (Err (Overflow cell)) (Err OutOfMemory) h k = absurd k

one_tie_reply : (file : File) (o q : Outcome) (t u : List ℕ) → IsTieReply file o t → IsTieReply file q u → (o ≡ q) ⊎ AreTiesOfOne o q
one_tie_reply file o q t u h k =
    let a = tie_answer file o t h in
    let b = tie_answer file q u k in
    subst (λ x. (x ≡ q) ⊎ AreTiesOfOne x q) (sym a.2) (subst (λ y. (tie_outcome a.0 ≡ y) ⊎ AreTiesOfOne (tie_outcome a.0) y) (sym b.2) (one_tie (path file) a.0 b.0 a.1 b.1))

-- ---- replies on a file
module _ (IsSaid : File → Outcome → List ℕ → Type 0) (AreAlike : Outcome → Outcome → Type 0)
    (same : (file : File) (o q : Outcome) (t u : List ℕ) → IsSaid file o t → IsSaid file q u → (o ≡ q) ⊎ AreAlike o q) where
  one_file_reply : (bytes : List ℕ) (o q : Outcome) (t u : List ℕ) → IsFileReply IsSaid bytes o t → IsFileReply IsSaid bytes q u → (o ≡ q) ⊎ AreAlike o q
  one_file_reply bytes o q t u (inl h) (inl k) = same h.0 o q t u h.2 (subst (λ f. IsSaid f q u) (ok_once (problem_of bytes) k.0 h.0 k.1 h.1) k.2)
  one_file_reply bytes o q t u (inl h) (inr k) = absurd (not_both (problem_of bytes) h.0 k.0 h.1 k.1)
  one_file_reply bytes o q t u (inr h) (inl k) = absurd (not_both (problem_of bytes) k.0 h.0 k.1 h.1)
  one_file_reply bytes o q t u (inr h) (inr k) =
      inl (h.2.0 ∙ ap (λ (f : FormatFault). variant.Format f.line f.kind) (err_once (problem_of bytes) h.0 k.0 h.1 k.1) ∙ sym k.2.0)

-- what isn't told of two replies of a command
abbrev AreAlikeOf : Command → Outcome → Outcome → Type 0
AreAlikeOf verb.Plain o q = ⊥
AreAlikeOf (verb.List n) o q = (nat_le 2 n ≡ false) × IsWalkEnd o × IsWalkEnd q
AreAlikeOf (verb.Sum n) o q = (nat_le 2 n ≡ false) × IsWalkEnd o × IsWalkEnd q
AreAlikeOf verb.Check o q = ⊥
AreAlikeOf verb.Generic o q = AreTiesOfOne o q
AreAlikeOf verb.Move o q = IsWalkEnd o × IsWalkEnd q
AreAlikeOf verb.Trace o q = IsWalkEnd o × IsWalkEnd q
AreAlikeOf verb.Verify o q = ⊥
AreAlikeOf verb.Powers o q = ⊥
AreAlikeOf (verb.Poly seed) o q = ⊥
AreAlikeOf (verb.Make family seed) o q = ⊥

loose_of : (words : List (List ℕ)) (command : Command) (o q : Outcome) → Means words command → AreAlikeOf command o q → AreLoose words o q
loose_of words verb.Plain o q means a = absurd a
loose_of words (verb.List n) o q means a = inl (inl (n, a.0, inl means), a.1, a.2)
loose_of words (verb.Sum n) o q means a = inl (inl (n, a.0, inr means), a.1, a.2)
loose_of words verb.Check o q means a = absurd a
loose_of words verb.Generic o q means a = inr (inl (means, a))
loose_of words verb.Move o q means a = inr (inr (means, a.0, a.1))
loose_of words verb.Trace o q means a = inl (inr means, a.0, a.1)
loose_of words verb.Verify o q means a = absurd a
loose_of words verb.Powers o q means a = absurd a
loose_of words (verb.Poly seed) o q means a = absurd a
loose_of words (verb.Make family seed) o q means a = absurd a

one_alone_reply : (n : ℕ) (W : File → List ℕ → Type 0) (bytes : List ℕ) (o q : Outcome) (t u : List ℕ) → IsAloneReply n W bytes o t → IsAloneReply n W bytes q u
    → (o ≡ q) ⊎ ((nat_le 2 n ≡ false) × IsWalkEnd o × IsWalkEnd q)
one_alone_reply n W bytes o q t u (inl h) (inl k) =
    one_file_reply (IsWalkReply W) (λ x y. (nat_le 2 n ≡ false) × IsWalkEnd x × IsWalkEnd y) (λ file x y v w a b. inr (h.0, walk_end W file x v a, walk_end W file y w b))
    bytes o q t u h.1 k.1
one_alone_reply n W bytes o q t u (inl h) (inr k) = unlike (nat_le 2 n) h.0 k.0
one_alone_reply n W bytes o q t u (inr h) (inl k) = unlike (nat_le 2 n) k.0 h.0
one_alone_reply n W bytes o q t u (inr h) (inr k) = inl (h.1 ∙ sym k.1)

one_walk_reply : (W : File → List ℕ → Type 0) (bytes : List ℕ) (o q : Outcome) (t u : List ℕ) → IsFileReply (IsWalkReply W) bytes o t → IsFileReply (IsWalkReply W) bytes q u
    → (o ≡ q) ⊎ (IsWalkEnd o × IsWalkEnd q)
one_walk_reply W bytes o q t u h k = one_file_reply (IsWalkReply W) (λ x y. IsWalkEnd x × IsWalkEnd y) (λ file x y v w a b. inr (walk_end W file x v a, walk_end W file y w b)) bytes o q t u h k

one_reply : (command : Command) (bytes : List ℕ) (o q : Outcome) (t u : List ℕ) → IsReply command bytes o t → IsReply command bytes q u → (o ≡ q) ⊎ AreAlikeOf command o q
one_reply verb.Plain bytes o q t u h k = one_file_reply IsListReply (λ x y. ⊥) (λ file x y v w a b. inl (one_list_reply file x y v w a b)) bytes o q t u h k
one_reply (verb.List n) bytes o q t u h k = one_alone_reply n IsReachedListing bytes o q t u h k
one_reply (verb.Sum n) bytes o q t u h k = one_alone_reply n IsReachedSum bytes o q t u h k
one_reply verb.Check bytes o q t u h k = inl (one_check_reply bytes o q t u h k)
one_reply verb.Generic bytes o q t u h k = one_file_reply IsTieReply AreTiesOfOne one_tie_reply bytes o q t u h k
one_reply verb.Move bytes o q t u h k = one_move_reply bytes o q t u h k
one_reply verb.Trace bytes o q t u h k = one_walk_reply IsTracedText bytes o q t u h k
one_reply verb.Verify bytes o q t u h k = inl (one_log_reply bytes o q t u h k)
one_reply verb.Powers bytes o q t u h k = inl (one_powers_reply bytes o q t u h k)
one_reply (verb.Poly seed) bytes o q t u h k = inl (one_system_reply seed bytes o q t u h k)
one_reply (verb.Make family seed) bytes o q t u h k = inl (h.0 ∙ sym k.0)

one_answer : (command : Command) (bytes : List ℕ) (o q : Outcome) (t u : List ℕ) → IsAnswer command bytes o t → IsAnswer command bytes q u → (o ≡ q) ⊎ AreAlikeOf command o q
one_answer command bytes o q t u (inl h) (inl k) = inl (h.1 ∙ sym k.1)
one_answer command bytes o q t u (inl h) (inr k) = absurd (let a = h.0.1 in let b = k.0 h.0.0 in omega (arith, a, b))
one_answer command bytes o q t u (inr h) (inl k) = absurd (let a = k.0.1 in let b = h.0 k.0.0 in omega (arith, a, b))
one_answer command bytes o q t u (inr h) (inr k) = one_reply command bytes o q t u h.1 k.1

-- what is called for is an answer of the command that the words mean
pub answer_of : (words : List (List ℕ)) (bytes : List ℕ) (command : Command) (o : Outcome) (t : List ℕ) → Means words command → IsCalledFor words (Some bytes) o t → IsAnswer command bytes o t
answer_of words bytes command o t means (inl h) = absurd (h.0 (command, means))
answer_of words bytes command o t means (inr h) =
    subst (λ c. IsAnswer c bytes o t) (one_meaning words h.0 command h.2 means) (subst (λ b. IsAnswer h.0 b o t) (sym h.3) h.4)

-- an answer on bytes that aren't too many is a reply
pub reply_of : (command : Command) (bytes : List ℕ) (o : Outcome) (t : List ℕ) → length bytes ≤ limit → IsAnswer command bytes o t → IsReply command bytes o t
reply_of command bytes o t short (inl l) = absurd (let a = l.0.1 in omega (arith, a, short))
reply_of command bytes o t short (inr r) = r.1

-- an answer other than too long is a reply
pub reply_not_long : (command : Command) (bytes : List ℕ) (o : Outcome) (t : List ℕ) → (status_of o ≡ 9 → ⊥) → IsAnswer command bytes o t → IsReply command bytes o t
reply_not_long command bytes o t other (inl l) = absurd (other (ap status_of l.1))
reply_not_long command bytes o t other (inr r) = r.1

alike_loose : (words : List (List ℕ)) (command : Command) (o q : Outcome) → Means words command → (o ≡ q) ⊎ AreAlikeOf command o q → (o ≡ q) ⊎ AreLoose words o q
alike_loose words command o q means (inl e) = inl e
alike_loose words command o q means (inr a) = inr (loose_of words command o q means a)

-- the words and known bytes call for one outcome
pub one_called_for : (words : List (List ℕ)) (bytes : List ℕ) (o q : Outcome) (t u : List ℕ) → IsCalledFor words (Some bytes) o t → IsCalledFor words (Some bytes) q u → (o ≡ q) ⊎ AreLoose words o q
one_called_for words bytes o q t u (inl h) (inl k) = inl (h.1 ∙ sym k.1)
one_called_for words bytes o q t u (inl h) (inr k) = absurd (h.0 (k.0, k.2))
one_called_for words bytes o q t u (inr h) (inl k) = absurd (k.0 (h.0, h.2))
one_called_for words bytes o q t u (inr h) (inr k) =
    alike_loose words h.0 o q h.2 (one_answer h.0 h.1 o q t u h.4
    (subst (λ b. IsAnswer h.0 b q u) (sym k.3 ∙ h.3) (subst (λ c. IsAnswer c k.1 q u) (one_meaning words k.0 h.0 k.2 h.2) k.4)))

not_free : (o : Outcome) → (status_of o ≡ 6 → ⊥) → (status_of o ≡ 7 → ⊥) → (status_of o ≡ 8 → ⊥) → ¬ (IsFree o)
not_free o a b c f = elim f [ inl e ↦ a (ap status_of e) | inr g ↦ elim g [ inl e ↦ b (ap status_of e) | inr e ↦ c (ap status_of e) ] ]

-- an outcome is free or it isn't
pub free_or : (o : Outcome) → IsFree o ⊎ ¬ (IsFree o)
free_or variant.ReadFault = inl (inl refl)
free_or variant.WriteFault = inl (inr (inl refl))
free_or variant.OutOfMemory = inl (inr (inr refl))
free_or variant.Ok = inr (not_free variant.Ok (λ e. omega (arith, e)) (λ e. omega (arith, e)) (λ e. omega (arith, e)))
free_or (variant.No line reason) = inr (not_free (variant.No line reason) (λ e. omega (arith, e)) (λ e. omega (arith, e)) (λ e. omega (arith, e)))
free_or variant.Usage = inr (not_free variant.Usage (λ e. omega (arith, e)) (λ e. omega (arith, e)) (λ e. omega (arith, e)))
free_or (variant.Format line kind) = inr (not_free (variant.Format line kind) (λ e. omega (arith, e)) (λ e. omega (arith, e)) (λ e. omega (arith, e)))
free_or (variant.OverflowCell cell) = inr (not_free (variant.OverflowCell cell) (λ e. omega (arith, e)) (λ e. omega (arith, e)) (λ e. omega (arith, e)))
free_or (variant.OverflowLine line) = inr (not_free (variant.OverflowLine line) (λ e. omega (arith, e)) (λ e. omega (arith, e)) (λ e. omega (arith, e)))
free_or variant.TooLong = inr (not_free variant.TooLong (λ e. omega (arith, e)) (λ e. omega (arith, e)) (λ e. omega (arith, e)))
free_or (variant.Tie proof) = inr (not_free (variant.Tie proof) (λ e. omega (arith, e)) (λ e. omega (arith, e)) (λ e. omega (arith, e)))
free_or variant.NeedsTeam = inr (not_free variant.NeedsTeam (λ e. omega (arith, e)) (λ e. omega (arith, e)) (λ e. omega (arith, e)))
free_or (variant.TooMany choices) = inr (not_free (variant.TooMany choices) (λ e. omega (arith, e)) (λ e. omega (arith, e)) (λ e. omega (arith, e)))

-- what is called for comes, unless a free answer does
pub comes : (words : List (List ℕ)) (bytes : List ℕ) (o result : Outcome) (t : List ℕ) → IsCalledFor words (Some bytes) o t
    → (¬ (IsFree result) → (u : List ℕ) × IsCalledFor words (Some bytes) result u) → (result ≡ o) ⊎ IsFree result ⊎ AreLoose words result o
comes words bytes o result t h f = elim (free_or result) [
  | inl free ↦ inr (inl free)
  | inr other ↦ let k = f other in elim (one_called_for words bytes result o k.0 t k.1 h) [ inl e ↦ inl e | inr l ↦ inr (inr l) ]
]

list_ok : (file : File) (o : Outcome) (t : List ℕ) → IsListReply file o t → ¬ (HasTooMany (plain_problem file)) → AllFit (plain_problem file) → o ≡ variant.Ok
list_ok file variant.Ok t h many fit = refl
list_ok file (variant.TooMany choices) t h many fit = absurd (many h.1)
list_ok file (variant.OverflowCell cell) t h many fit = absurd (h.2.1 (fit cell h.2.0))
list_ok file (variant.No line reason) t h many fit = absurd h
list_ok file variant.Usage t h many fit = absurd h
list_ok file (variant.Format line kind) t h many fit = absurd h
list_ok file (variant.OverflowLine line) t h many fit = absurd h
list_ok file variant.ReadFault t h many fit = absurd h
list_ok file variant.WriteFault t h many fit = absurd h
list_ok file variant.OutOfMemory t h many fit = absurd h
list_ok file variant.TooLong t h many fit = absurd h
list_ok file (variant.Tie proof) t h many fit = absurd h
list_ok file variant.NeedsTeam t h many fit = absurd h

plain_ok : (bytes : List ℕ) (file : File) (o : Outcome) (t : List ℕ) → problem_of bytes ≡ Ok file → ¬ (HasTooMany (plain_problem file)) → AllFit (plain_problem file) → IsPlainReply bytes o t → o ≡ variant.Ok
plain_ok bytes file o t e many fit (inl h) = list_ok file o t (subst (λ f. IsListReply f o t) (ok_once (problem_of bytes) h.0 file h.1 e) h.2) many fit
plain_ok bytes file o t e many fit (inr h) = absurd (not_both (problem_of bytes) file h.0 e h.1)

called_ok : (words : List (List ℕ)) (bytes : List ℕ) (file : File) (o : Outcome) (t : List ℕ) → length bytes ≤ limit → Means words verb.Plain → problem_of bytes ≡ Ok file
    → ¬ (HasTooMany (plain_problem file)) → AllFit (plain_problem file) → IsCalledFor words (Some bytes) o t → o ≡ variant.Ok
called_ok words bytes file o t short means e many fit h =
    plain_ok bytes file o t e many fit (reply_of verb.Plain bytes o t short (answer_of words bytes verb.Plain o t means h))

-- a file of few choices whose workings fit is listed, unless a free answer comes
pub lists : (words : List (List ℕ)) (bytes : List ℕ) (file : File) (result : Outcome) → length bytes ≤ limit → Means words verb.Plain → problem_of bytes ≡ Ok file
    → ¬ (HasTooMany (plain_problem file)) → AllFit (plain_problem file)
    → (¬ (IsFree result) → (u : List ℕ) × IsCalledFor words (Some bytes) result u) → (result ≡ variant.Ok) ⊎ IsFree result
lists words bytes file result short means e many fit f = elim (free_or result) [
  | inl free ↦ inr free
  | inr other ↦ let k = f other in inl (called_ok words bytes file result k.0 short means e many fit k.1)
]

plain_listing : (bytes t : List ℕ) → IsPlainReply bytes variant.Ok t → (file : File) × (problem_of bytes ≡ Ok file) × IsListingOf file t
plain_listing bytes t (inl h) = (h.0, h.1, h.2.2)
plain_listing bytes t (inr h) = absurd (let e = ap status_of h.2.0 in omega (arith, e))

-- Ok of `plain` is the listing of the file
listed : (words : List (List ℕ)) (bytes t : List ℕ) → Means words verb.Plain → IsCalledFor words (Some bytes) variant.Ok t
    → (file : File) × (problem_of bytes ≡ Ok file) × IsListingOf file t
listed words bytes t means h = plain_listing bytes t (reply_not_long verb.Plain bytes variant.Ok t (λ e. omega (arith, e)) (answer_of words bytes verb.Plain variant.Ok t means h))

-- Ok isn't free
pub ok_other : (result : Outcome) → result ≡ variant.Ok → ¬ (IsFree result)
ok_other result e = not_free result (λ f. let g = ap status_of e in omega (arith, f, g)) (λ f. let g = ap status_of e in omega (arith, f, g)) (λ f. let g = ap status_of e in omega (arith, f, g))

pub tie_other : (result : Outcome) (proof : TieProof) → result ≡ variant.Tie proof → ¬ (IsFree result)
tie_other result proof e = not_free result (λ f. let g = ap status_of e in omega (arith, f, g)) (λ f. let g = ap status_of e in omega (arith, f, g)) (λ f. let g = ap status_of e in omega (arith, f, g))

pub cell_other : (result : Outcome) (cell : Cell) → result ≡ variant.OverflowCell cell → ¬ (IsFree result)
cell_other result cell e = not_free result (λ f. let g = ap status_of e in omega (arith, f, g)) (λ f. let g = ap status_of e in omega (arith, f, g)) (λ f. let g = ap status_of e in omega (arith, f, g))

pub team_other : (result : Outcome) → result ≡ variant.NeedsTeam → ¬ (IsFree result)
team_other result e = not_free result (λ f. let g = ap status_of e in omega (arith, f, g)) (λ f. let g = ap status_of e in omega (arith, f, g)) (λ f. let g = ap status_of e in omega (arith, f, g))

-- what is called for on the bytes that are left
pub known : (words : List (List ℕ)) (left : Option (List ℕ)) (bytes : List ℕ) (o : Outcome) (t : List ℕ) → left ≡ Some bytes → IsCalledFor words left o t → IsCalledFor words (Some bytes) o t
known words left bytes o t e h = subst (λ l. IsCalledFor words l o t) e h

-- what `plain` that ended Ok has written
pub ended_listed : (words : List (List ℕ)) (left : Option (List ℕ)) (bytes : List ℕ) (o : Outcome) (t : List ℕ) → left ≡ Some bytes → Means words verb.Plain → o ≡ variant.Ok → IsCalledFor words left o t
    → (file : File) × (problem_of bytes ≡ Ok file) × IsListingOf file t
ended_listed words left bytes o t e means ok h = listed words bytes t means (subst (λ q. IsCalledFor words (Some bytes) q t) ok (known words left bytes o t e h))

powers_text : (bytes t : List ℕ) → IsPowersReply bytes variant.Ok t → (listing : Listing) × IsListingText bytes listing × IsRight listing × IsPowersText listing t
powers_text bytes t (inl h) = (h.0, h.1, h.2.0, h.2.2)
powers_text bytes t (inr h) = absurd (let e = ap status_of h.2.0 in omega (arith, e))

-- what `powers` that ended Ok has written
pub ended_powers : (words : List (List ℕ)) (left : Option (List ℕ)) (bytes : List ℕ) (o : Outcome) (t : List ℕ) → left ≡ Some bytes → Means words verb.Powers → o ≡ variant.Ok → IsCalledFor words left o t
    → (listing : Listing) × IsListingText bytes listing × IsRight listing × IsPowersText listing t
ended_powers words left bytes o t e means ok h =
    powers_text bytes t (reply_not_long verb.Powers bytes variant.Ok t (λ f. omega (arith, f))
    (answer_of words bytes verb.Powers variant.Ok t means (subst (λ q. IsCalledFor words (Some bytes) q t) ok (known words left bytes o t e h))))

made_answer : (family : Family) (seed : ℕ) (bytes : List ℕ) (o : Outcome) (t : List ℕ) → IsAnswer (verb.Make family seed) bytes o t → IsMadeReply family seed o t
made_answer family seed bytes o t (inl l) = let f : IsTrue false = l.0.0 in cc
made_answer family seed bytes o t (inr r) = r.1

-- what `make` is asked for is its file
pub called_made : (words : List (List ℕ)) (left : Option (List ℕ)) (family : Family) (seed : ℕ) (o : Outcome) (t : List ℕ) → Means words (verb.Make family seed) → IsCalledFor words left o t → IsMadeReply family seed o t
called_made words left family seed o t means (inl h) = absurd (h.0 (verb.Make family seed, means))
called_made words left family seed o t means (inr h) =
    made_answer family seed h.1 o t (subst (λ c. IsAnswer c h.1 o t) (one_meaning words h.0 (verb.Make family seed) h.2 means) h.4)

-- `make` ends well, unless a free answer comes
pub makes : (words : List (List ℕ)) (left : Option (List ℕ)) (family : Family) (seed : ℕ) (result : Outcome) → Means words (verb.Make family seed)
    → (¬ (IsFree result) → (u : List ℕ) × IsCalledFor words left result u) → (result ≡ variant.Ok) ⊎ IsFree result
makes words left family seed result means f = elim (free_or result) [
  | inl free ↦ inr free
  | inr other ↦ let k = f other in inl (called_made words left family seed result k.0 means k.1).0
]
