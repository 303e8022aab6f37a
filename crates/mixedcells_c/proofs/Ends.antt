-- What follows from how a call ended.
use Rattle.std.proofs.Common.{◌≡◌, ◌≢◌, ◌⊎◌, ◌∙◌, ◌<◌, ◌≤◌, ℕ, List, [], ◌++◌, length, Some, Ok, sym, ap, subst, inl, inr, ⊎_elim, arith}
use Rattle.std.specs.Prelude.{MatchResult}
use Rattle.std.proofs.lemmas.Result.{MatchResult-weaker}
use Rattle.cayley.specs.Cells.{Cell}
use Rattle.cayley.specs.declared.found.TieProof.{TieProof}
use Rattle.cayley.specs.Files.{File}
use Rattle.support_text.specs.ProblemText.{problem_of}
use Rattle.cell_certificate.specs.Answers.{IsTooLarge}
use Rattle.mixedcells.specs.declared.words.Command.TheVariants as verb
use Rattle.support_text.specs.declared.fault.FormatFault.{FormatFault}
use Rattle.poly_text.specs.SystemText.{PointSystem, system_of}
use Rattle.listing_text.specs.declared.listing.Listing.{Listing}
use Rattle.mixedcells.specs.declared.outcome.Outcome.{Outcome}
use Rattle.mixedcells.specs.declared.outcome.Outcome.TheVariants as variant
use Rattle.mixedcells.specs.Words.{Means, IsForTeam, IsWalking}
use Rattle.mixedcells.specs.Outcomes.{status_of}
use Rattle.mixedcells.specs.Families.{lifted_text}
use Rattle.mixedcells.specs.Answers.{limit, IsListingText}
use Rattle.mixedcells.specs.Walks.{IsTreeTie, IsTreeUnfit}
use Rattle.mixedcells.specs.Runs.{AreLoose, IsCalledFor, IsFree, Passes}
use Rattle.mixedcells_c.specs.Buffers.{Grown, IsWithheld, Stands, Holds, IsGiven, HasNoRoom, HasNoMemory}
use Rattle.mixedcells_c.specs.Runs.{IsRun, IsEnd}
use Rattle.mixedcells_c.proofs.Statuses.{ok_alone, tie_alone, read_fault_alone, write_fault_alone, no_memory_alone, team_alone, overflow_alone, room_is_none}

module _ {words : List (List ℕ)} {input old new : List ℕ} {needed status : ℕ} (end : IsEnd words input old new needed status) where
  by_way : {P : Type 0}
      → ((outcome : Outcome) (text : List ℕ) → IsRun words input outcome text → IsGiven outcome text old new needed status → P)
      → ((outcome : Outcome) (text : List ℕ) → IsRun words input outcome text → HasNoRoom text old new needed status → P)
      → (HasNoMemory old new needed status → P) → P
  by_way f g h = ⊎_elim (λ r. f r.0 r.1 r.2 r.3) (⊎_elim (λ r. g r.0 r.1 r.2 r.3) h) end.way

  pub written : ¬ (IsWithheld status) → (outcome : Outcome) × (text : List ℕ) × IsCalledFor words (Some input) outcome text × IsGiven outcome text old new needed status
  written seen = by_way (λ o t run at. (o, t, run.written, at)) (λ o t run at. absurd (seen (inr at.0))) (λ at. absurd (seen (inl at.0)))

  pub no_room : status ≡ 256 → (outcome : Outcome) × (text : List ℕ) × IsCalledFor words (Some input) outcome text × HasNoRoom text old new needed status
  no_room e = by_way (λ o t run at. absurd (room_is_none o (sym at.0 ∙ e))) (λ o t run at. (o, t, run.written, at))
      (λ at. absurd (let d : 8 ≡ 256 = sym at.0 ∙ e in omega (arith, d)))

  pub no_memory : status ≡ 8 → (needed ≡ 0) × (new ≡ old)
  no_memory e = by_way (λ o t run at. absurd (run.bound (inr (inr (no_memory_alone o (sym at.0 ∙ e))))))
      (λ o t run at. absurd (let d : 256 ≡ 8 = sym at.0 ∙ e in omega (arith, d))) (λ at. (at.1, at.2))

  pub no_read_fault : status ≢ 6
  no_read_fault e = by_way (λ o t run at. run.bound (inl (read_fault_alone o (sym at.0 ∙ e))))
      (λ o t run at. let d : 256 ≡ 6 = sym at.0 ∙ e in omega (arith, d)) (λ at. let d : 8 ≡ 6 = sym at.0 ∙ e in omega (arith, d))

  pub no_write_fault : status ≢ 7
  no_write_fault e = by_way (λ o t run at. run.bound (inr (inl (write_fault_alone o (sym at.0 ∙ e)))))
      (λ o t run at. let d : 256 ≡ 7 = sym at.0 ∙ e in omega (arith, d)) (λ at. let d : 8 ≡ 7 = sym at.0 ∙ e in omega (arith, d))

  pub exact : (outcome : Outcome) (text : List ℕ) → IsCalledFor words (Some input) outcome text
      → (status ≡ status_of outcome) ⊎ IsWithheld status ⊎ ((other : Outcome) × (status ≡ status_of other) × AreLoose words other outcome)
  exact outcome text called = by_way
      (λ o t run at. ⊎_elim (λ e. inl (at.0 ∙ ap status_of e)) (λ l. inr (inr (o, at.0, l))) (run.exact outcome text called))
      (λ o t run at. inr (inl (inr at.0))) (λ at. inr (inl (inl at.0)))

  -- a status that every such run has comes, or none is given
  pub comes : (k : ℕ) → ((outcome : Outcome) (text : List ℕ) → IsRun words input outcome text → status_of outcome ≡ k) → (status ≡ k) ⊎ IsWithheld status
  comes k f = by_way (λ o t run at. inl (at.0 ∙ f o t run)) (λ o t run at. inr (inr at.0)) (λ at. inr (inl at.0))

  -- a status but those two is that of a run whose text stands in the room
  pub told : (k : ℕ) → status ≡ k → k ≢ 8 → k ≢ 256
      → (outcome : Outcome) × (text : List ℕ) × IsRun words input outcome text × (status_of outcome ≡ k) × Stands text old new needed
  told k e few many = by_way (λ o t run at. (o, t, run, sym at.0 ∙ e, at.1)) (λ o t run at. absurd (many (sym e ∙ at.0))) (λ at. absurd (few (sym e ∙ at.0)))

  -- a run that ended Ok
  pub ended : status ≡ 0 → (text : List ℕ) × IsRun words input variant.Ok text × Stands text old new needed
  ended e = let h = told 0 e (λ z. omega (arith, z)) (λ z. omega (arith, z)) in
      (h.1, subst (λ (o : Outcome). IsRun words input o h.1) (ok_alone h.0 h.3) h.2, h.4)

  pub tie_cause : IsWalking words → status ≡ 4 → (proof : TieProof) × (file : File) × (problem_of input ≡ Ok file)
      × IsTreeTie file proof × Holds (IsCalledFor words (Some input) (variant.Tie proof)) old new needed
  tie_cause walking e =
      let h = told 4 e (λ z. omega (arith, z)) (λ z. omega (arith, z)) in
      let tie = tie_alone h.0 h.3 in
      let cause = h.2.tie_cause tie.0 walking tie.1 in
      (tie.0, cause.0, cause.1, cause.2, (h.1, subst (λ (o : Outcome). IsCalledFor words (Some input) o h.1) tie.1 h.2.written, h.4))

  pub overflow_cause : IsWalking words → status ≡ 5 → (outcome : Outcome) × (status_of outcome ≡ 5)
      × ((cell : Cell) → outcome ≡ variant.OverflowCell cell → (file : File) × (problem_of input ≡ Ok file) × IsTreeUnfit file cell)
      × Holds (IsCalledFor words (Some input) outcome) old new needed
  overflow_cause walking e =
      let h = told 5 e (λ z. omega (arith, z)) (λ z. omega (arith, z)) in
      (h.0, h.3, (λ cell is. h.2.overflow_cause cell walking is), (h.1, h.2.written, h.4))

  pub needs_team : status ≡ 11 → IsForTeam words
  needs_team e = let h = told 11 e (λ z. omega (arith, z)) (λ z. omega (arith, z)) in h.2.needs_team.0 (team_alone h.0 h.3)

  pub for_team : IsForTeam words → ((status ≡ 11) × (needed ≡ 0) × (new ≡ old)) ⊎ (status ≡ 8)
  for_team team = by_way
      (λ o t run at. let is = run.needs_team.1 team in
      let s = subst (λ (x : List ℕ). Stands x old new needed) (run.silent is) at.1 in inl (at.0 ∙ ap status_of is, s.0, s.1))
      (λ o t run at. let none = run.silent (run.needs_team.1 team) in
      absurd (let less : length old < 0 = subst (λ (x : List ℕ). length old < length x) none at.2 in omega (arith, less)))
      (λ at. inr at.0)

  pub judged : (listing : Listing) → length input ≤ limit → Means words verb.Check → IsListingText input listing
      → ((line : ℕ) → ¬ (IsTooLarge listing line)) → (status ≡ 0) ⊎ (status ≡ 1) ⊎ IsWithheld status
  judged listing short means is fit = by_way
      (λ o t run at. ⊎_elim (λ e. inl (at.0 ∙ ap status_of e)) (λ n. inr (inl (at.0 ∙ ap status_of n.2))) (run.judged listing short means is fit))
      (λ o t run at. inr (inr (inr at.0))) (λ at. inr (inr (inl at.0)))

  -- a run that finds a tie or none
  pub tie_or_none : ((outcome : Outcome) (text : List ℕ) → IsRun words input outcome text → (outcome ≡ variant.Ok) ⊎ ((proof : TieProof) × (outcome ≡ variant.Tie proof)))
      → (status ≡ 0) ⊎ (status ≡ 4) ⊎ IsWithheld status
  tie_or_none f = by_way
      (λ o t run at. ⊎_elim (λ e. inl (at.0 ∙ ap status_of e)) (λ n. inr (inl (at.0 ∙ ap status_of n.1))) (f o t run))
      (λ o t run at. inr (inr (inr at.0))) (λ at. inr (inr (inl at.0)))

  -- what holds of the outcome of every such run holds of one that the status tells, or none is given
  pub spared : (Spares : Outcome → Type 0) → ((outcome : Outcome) (text : List ℕ) → IsRun words input outcome text → Spares outcome)
      → ((outcome : Outcome) × (status ≡ status_of outcome) × Spares outcome) ⊎ IsWithheld status
  spared Spares f = by_way (λ o t run at. inl (o, at.0, f o t run)) (λ o t run at. inr (inr at.0)) (λ at. inr (inl at.0))

  -- where no cell is said not to fit, a line is
  pub line_alone : status ≡ 5 → ((outcome : Outcome) (text : List ℕ) → IsRun words input outcome text → (cell : Cell) → outcome ≢ variant.OverflowCell cell)
      → (line : ℕ) × Holds (IsCalledFor words (Some input) (variant.OverflowLine line)) old new needed
  line_alone e no_cell =
      let h = told 5 e (λ z. omega (arith, z)) (λ z. omega (arith, z)) in
      ⊎_elim (λ c. absurd (no_cell h.0 h.1 h.2 c.0 c.1))
      (λ l. (l.0, (h.1, subst (λ (o : Outcome). IsCalledFor words (Some input) o h.1) l.1 h.2.written, h.4))) (overflow_alone h.0 h.3)

  pub passed : ((outcome : Outcome) (text : List ℕ) → IsRun words input outcome text → Passes input outcome)
      → (status ≡ 0) ⊎ ((limit < length input) × (status ≡ 9)) ⊎ IsWithheld status
  passed f = by_way
      (λ o t run at. ⊎_elim (λ e. inl (at.0 ∙ ap status_of e)) (λ n. inr (inl (n.0, at.0 ∙ ap status_of n.1))) (f o t run))
      (λ o t run at. inr (inr (inr at.0))) (λ at. inr (inr (inl at.0)))

  -- the lifted system stands there, or the fault is told
  abbrev pub IsSystemTold : ℕ → Type 0
  IsSystemTold seed = MatchResult (system_of input) (λ system. (status ≡ 0) × Holds (λ text. text ≡ lifted_text seed system) old new needed)
      (λ fault. (status ≡ 3) × Holds (IsCalledFor words (Some input) (variant.Format fault.line fault.kind)) old new needed)

  pub system_told : (seed : ℕ) → ((outcome : Outcome) (text : List ℕ) → IsRun words input outcome text → MatchResult (system_of input)
      (λ system. (outcome ≡ variant.Ok) × (text ≡ lifted_text seed system)) (λ fault. outcome ≡ variant.Format fault.line fault.kind))
      → IsSystemTold seed ⊎ IsWithheld status
  system_told seed f = by_way
      (λ o t run at. inl (MatchResult-weaker (system_of input) (f o t run)
      (λ (system : PointSystem) h. (at.0 ∙ ap status_of h.0, (t, h.1, at.1)))
      (λ (fault : FormatFault) e. (at.0 ∙ ap status_of e, (t, subst (λ (x : Outcome). IsCalledFor words (Some input) x t) e run.written, at.1)))))
      (λ o t run at. inr (inr at.0)) (λ at. inr (inl at.0))

-- what was appended to an empty sink is what it holds
pub here : (empty : Grown) (held items : List ℕ) → empty ≡ record { held = []; faults = 0 } → items ≡ held
    → (IsWanted : List ℕ → Type 0) → (text : List ℕ) × IsWanted text × (held ≡ empty.held ++ text) → IsWanted items
here empty held items e f IsWanted h = subst IsWanted (sym (f ∙ h.2 ∙ ap (λ (s : Grown). s.held ++ h.0) e)) h.1

-- an answer that isn't free is the one that is told
pub bound_to : {P : Type 0} {outcome : Outcome} → ¬ (IsFree outcome) → P ⊎ IsFree outcome → P
bound_to bound h = ⊎_elim (λ p. p) (λ f. absurd (bound f)) h
