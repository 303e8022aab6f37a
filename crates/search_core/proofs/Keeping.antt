-- in a true run the content of the state stays what it was
use Rattle.std.proofs.Common.{◌≡◌, ℕ, zero, suc, ◌+◌, ◌-◌, ◌<◌, List, [], ◌∷◌, ◌++◌, length, map, arith, refl, sym, ap, ap₂, subst, ◌∙◌, inl, inr, append-nil}
use Rattle.std.specs.Prelude.{IsPermutation, flat_map, slice_index_or, slice_set, replicate}
use Rattle.std.proofs.lemmas.Grind.{flat_map-append}
use Rattle.std.proofs.lemmas.List.{get_or-set_other, length-set}
use Rattle.cayley.specs.Problems.{Problem}
use Rattle.cayley.specs.Valid.{IsStillProblem}
use Rattle.cayley.specs.Cells.{Cell}
use Rattle.cayley.specs.Mixed.{IsMixedCell}
use Rattle.cayley.specs.Parents.{IsParent}
use Rattle.cayley.specs.Shares.{Branch, IsChildren, GivesShares}
use Rattle.cayley.proofs.Life.Exits.{late_children, late_childless}
use Rattle.cayley.proofs.Life.Targets.{target_law}
use Rattle.cayley.proofs.Searching.Members.{contains_has}
use Rattle.cayley.proofs.Searching.Shares.{share_step, no_share, list_has, dec_true_branch}
use Rattle.cayley.proofs.Searching.Counting.{count, count-nil, count-append, count_permutation, permutation_counts}
use Rattle.search_core.specs.declared.branches.CoreBranch.{CoreBranch}
use Rattle.search_core.specs.declared.branches.CoreOutcome.{CoreOutcome}
use Rattle.search_core.specs.declared.branches.CoreOutcome.TheVariants.{Children, Cell as Own, Nothing}
use Rattle.search_core.specs.declared.branches.Children2.TheVariants.{One as OneChild, Two as TwoChildren}
use Rattle.search_core.specs.declared.branches.Hand.{Hand}
use Rattle.search_core.specs.declared.branches.Hand.TheVariants.{Empty, Branch as Holding}
use Rattle.search_core.specs.declared.events.Event.{Event}
use Rattle.search_core.specs.declared.events.Event.TheVariants.{Claim, Steal, Expand, Offer, Report}
use Rattle.search_core.specs.States.{Searcher, State, idle, searcher_at, with_searcher, start_state, IsIdle}
use Rattle.search_core.specs.Events.{IsFirstChild, hand_of, Follows}
use Rattle.search_core.specs.Runs.{branch_of, IsTrueOutcome, IsTrueEvent, IsTrueRun}
use Rattle.search_core.specs.Contents.{held, content_of, content, all_outs, KeepsShare}

module _ (share : Branch → List Cell) (c : Cell) where
  -- the shares of the branches of a deque
  abbrev open_in : List CoreBranch → List Cell
  open_in ds = flat_map (λ b. share (branch_of b)) ds

  -- how often c is in the content of a searcher, and in the shares of a deque
  count_searcher : (x : Searcher) → count c (content_of share x) ≡ count c x.outs + (count c (held share x.hand) + count c (open_in x.deque))
  count_searcher x = count-append c x.outs (held share x.hand ++ open_in x.deque) ∙ ap (λ n. count c x.outs + n) (count-append c (held share x.hand) (open_in x.deque))

  count_last : (ds : List CoreBranch) (b : CoreBranch) → count c (open_in (ds ++ b ∷ [])) ≡ count c (open_in ds) + count c (share (branch_of b))
  count_last ds b =
      ap (count c) (flat_map-append (λ b. share (branch_of b)) ds (b ∷ []) ∙ ap (λ l. open_in ds ++ l) (append-nil (share (branch_of b))))
      ∙ count-append c (open_in ds) (share (branch_of b))

  -- one searcher changes: the state changes by as much
  count_changed : (xs : State) (i : ℕ) (y : Searcher) → i < length xs
      → count c (content share (slice_set xs i y)) + count c (content_of share (slice_index_or xs i idle)) ≡ count c (content share xs) + count c (content_of share y)
  count_changed [] i y l = absurd (omega (arith, l))
  count_changed (x ∷ xs) zero y l =
      let a = count-append c (content_of share x) (content share xs) in
      let b = count-append c (content_of share y) (content share xs) in
      omega (arith, a, b)
  count_changed (x ∷ xs) (suc i) y l =
      let r = count_changed xs i y (omega (arith, l)) in
      let a = count-append c (content_of share x) (content share (slice_set xs i y)) in
      let b = count-append c (content_of share x) (content share xs) in
      omega (arith, r, a, b)

  claim_keeps : (s : ℕ) (old new : State) → Follows (Claim s) old new → count c (content share old) ≡ count c (content share new)
  claim_keeps s old new h =
      let x = searcher_at old s in
      let y : Searcher = record x { deque = h.1.0; hand = Holding h.1.1 } in
      let is = h.0.0 in
      let e = count_changed old (s - 1) y (omega (arith, is)) in
      let u = count_searcher x in
      let v = count_searcher y in
      let k = ap (λ k. count c (held share k)) h.0.1 in
      let d = ap (λ ds. count c (open_in ds)) h.1.2 ∙ count_last h.1.0 h.1.1 in
      let n = count-nil c in
      let w = ap (λ z. count c (content share z)) h.1.3 in
      omega (arith, e, u, v, k, d, n, w)

  steal_keeps : (s from : ℕ) (old new : State) → Follows (Steal s from) old new → count c (content share old) ≡ count c (content share new)
  steal_keeps s from old new h =
      let x = searcher_at old s in
      let z = searcher_at old from in
      let y : Searcher = record x { hand = Holding h.1.0 } in
      let g : Searcher = record z { deque = h.1.1 } in
      let is = h.0.0 in
      let other = h.0.1 in
      let middle = with_searcher old from g in
      let e = count_changed old (from - 1) g (omega (arith, other)) in
      let ln = length-set old (from - 1) g in
      let f = count_changed middle (s - 1) y (omega (arith, is, ln)) in
      let apart = h.0.2 in
      let same = ap (λ q. count c (content_of share q)) (get_or-set_other old (from - 1) (s - 1) g idle (λ q. apart (omega (arith, q, is, other)))) in
      let ux = count_searcher x in
      let uy = count_searcher y in
      let uz = count_searcher z in
      let ug = count_searcher g in
      let k = ap (λ k. count c (held share k)) h.0.3 in
      let d = ap (λ ds. count c (open_in ds)) h.1.2 ∙ count-append c (share (branch_of h.1.0)) (open_in h.1.1) in
      let n = count-nil c in
      let w = ap (λ q. count c (content share q)) h.1.3 in
      omega (arith, e, f, same, ux, uy, uz, ug, k, d, n, w)

  expand_keeps : (s : ℕ) (outcome : CoreOutcome) (old new : State) (b : CoreBranch) → Follows (Expand s outcome) old new → (searcher_at old s).hand ≡ Holding b
      → count c (share (branch_of b)) ≡ count c (held share (hand_of outcome)) → count c (content share old) ≡ count c (content share new)
  expand_keeps s outcome old new b h has true_of =
      let x = searcher_at old s in
      let y : Searcher = record x { hand = hand_of outcome } in
      let is = h.0.0 in
      let e = count_changed old (s - 1) y (omega (arith, is)) in
      let u = count_searcher x in
      let v = count_searcher y in
      let k = ap (λ k. count c (held share k)) has in
      let w = ap (λ z. count c (content share z)) h.1 in
      omega (arith, e, u, v, k, w, true_of)

  first_child : (hand rest : Hand) (b : CoreBranch) → IsFirstChild hand b rest → count c (held share hand) ≡ count c (share (branch_of b)) + count c (held share rest)
  first_child hand rest b (inl h) =
      let i = ap (λ k. count c (held share k)) h.0 in
      let j = ap (λ k. count c (held share k)) h.1 in
      let n = count-nil c in
      omega (arith, i, j, n)
  first_child hand rest b (inr h) =
      let i = ap (λ k. count c (held share k)) h.1 in
      let j = ap (λ k. count c (held share k)) h.2 in
      let a = count-append c (share (branch_of b)) (share (branch_of h.0)) in
      omega (arith, i, j, a)

  offer_keeps : (s : ℕ) (old new : State) → Follows (Offer s) old new → count c (content share old) ≡ count c (content share new)
  offer_keeps s old new h =
      let x = searcher_at old s in
      let y : Searcher = record x { deque = x.deque ++ h.1.0 ∷ []; hand = h.1.1 } in
      let is = h.0.0 in
      let e = count_changed old (s - 1) y (omega (arith, is)) in
      let u = count_searcher x in
      let v = count_searcher y in
      let k = first_child x.hand h.1.1 h.1.0 h.1.2 in
      let d = count_last x.deque h.1.0 in
      let w = ap (λ z. count c (content share z)) h.1.3 in
      omega (arith, e, u, v, k, d, w)

  report_keeps : (s : ℕ) (old new : State) → Follows (Report s) old new → count c (content share old) ≡ count c (content share new)
  report_keeps s old new h =
      let x = searcher_at old s in
      let y : Searcher = record x { hand = Empty; outs = x.outs ++ h.1.0 ∷ [] } in
      let is = h.0.0 in
      let e = count_changed old (s - 1) y (omega (arith, is)) in
      let u = count_searcher x in
      let v = count_searcher y in
      let k = ap (λ k. count c (held share k)) h.1.1 in
      let d = count-append c x.outs (h.1.0 ∷ []) in
      let n = count-nil c in
      let w = ap (λ z. count c (content share z)) h.1.2 in
      omega (arith, e, u, v, k, d, n, w)

  -- searchers that have nothing
  count_idle : (n : ℕ) → count c (content share (replicate n idle)) ≡ 0
  count_idle zero = count-nil c
  count_idle (suc n) = count_idle n

  count_start : (searchers : ℕ) (b : CoreBranch) → count c (content share (start_state searchers b)) ≡ count c (share (branch_of b))
  count_start searchers b =
      let first : Searcher = record idle { deque = b ∷ [] } in
      let a = count-append c (content_of share first) (content share (replicate (searchers - 1) idle)) in
      let i = count_idle (searchers - 1) in
      let l = ap (count c) (append-nil (share (branch_of b))) in
      omega (arith, a, i, l)

-- with nothing in the deques and hands the content is the outs
only_outs : (share : Branch → List Cell) (x : Searcher) → x.deque ≡ [] → x.hand ≡ Empty → content_of share x ≡ x.outs
only_outs share x d h =
    ap (λ l. x.outs ++ (held share x.hand ++ flat_map (λ b. share (branch_of b)) l)) d ∙ ap (λ k. x.outs ++ (held share k ++ [])) h ∙ append-nil x.outs

idle_outs : (share : Branch → List Cell) (state : State) → IsIdle state → content share state ≡ all_outs state
idle_outs share [] e = refl
idle_outs share (x ∷ state) e = ap₂ (λ (l m : List Cell). l ++ m) (only_outs share x e.0.0 e.0.1) (idle_outs share state e.1)

module _ (p : Problem) (still : IsStillProblem p) (share : Branch → List Cell) (gives : GivesShares p share) where
  -- the parent of a cell isn't mixed
  not_mixed : (b : Branch) (k : Branch) (kids : List Branch) → IsChildren p b.cell (k ∷ kids) → ¬ (IsMixedCell p b.cell)
  not_mixed b k kids children mixed =
      late_childless p b.cell k.cell still.problem (target_law p b.cell still mixed)
      (list_has (λ cell. IsParent p b.cell cell) (map (λ (b : Branch). b.cell) (k ∷ kids)) children.1 k.cell (inl refl))

  childless : (sigma : Cell) → ((tau : Cell) → ¬ (IsParent p sigma tau)) → IsChildren p sigma []
  childless sigma n = (tt, (tt, λ tau. ((λ h. absurd (contains_has [] tau h)), (λ h. absurd (n tau h)))))

  -- a true outcome stands for the share of the branch
  outcome_keeps : (c : Cell) (b : Branch) (outcome : CoreOutcome) → IsTrueOutcome p b outcome → count c (share b) ≡ count c (held share (hand_of outcome))
  outcome_keeps c b (Children (OneChild k)) q =
      let kids = branch_of k ∷ [] in
      count_permutation c (share b) (share (branch_of k) ++ []) (share_step p still.problem b q.0 kids q.1 (IsMixedCell p) share gives [] (inr (not_mixed b (branch_of k) [] q.1, refl)))
      ∙ ap (count c) (append-nil (share (branch_of k)))
  outcome_keeps c b (Children (TwoChildren k l)) q =
      let kids = branch_of k ∷ branch_of l ∷ [] in
      count_permutation c (share b) (share (branch_of k) ++ (share (branch_of l) ++ []))
      (share_step p still.problem b q.0 kids q.1 (IsMixedCell p) share gives [] (inr (not_mixed b (branch_of k) (branch_of l ∷ []) q.1, refl)))
      ∙ ap (λ m. count c (share (branch_of k) ++ m)) (append-nil (share (branch_of l)))
  outcome_keeps c b (Own d) q =
      count_permutation c (share b) (b.cell ∷ [])
      (share_step p still.problem b q.0 [] (late_children p b.cell still.problem (target_law p b.cell still q.1)) (IsMixedCell p) share gives (b.cell ∷ []) (inl (q.1, refl)))
      ∙ ap (λ x. count c (x ∷ [])) (sym q.2)
  outcome_keeps c b Nothing (inl n) = ap (count c) (no_share p (IsMixedCell p) b (share b) n (gives b))
  outcome_keeps c b Nothing (inr q) = elim (dec_true_branch p still.problem b) [
    | no n ↦ ap (count c) (no_share p (IsMixedCell p) b (share b) n (gives b))
    | yes is ↦ count_permutation c (share b) [] (share_step p still.problem b is [] (childless b.cell q.1) (IsMixedCell p) share gives [] (inr (q.0, refl)))
  ]

  event_keeps : (c : Cell) (event : Event) (old new : State) → Follows event old new → IsTrueEvent p old event → count c (content share old) ≡ count c (content share new)
  event_keeps c (Claim s) old new h t = claim_keeps share c s old new h
  event_keeps c (Steal s from) old new h t = steal_keeps share c s from old new h
  event_keeps c (Expand s outcome) old new h t = expand_keeps share c s outcome old new t.0 h t.1 (outcome_keeps c (branch_of t.0) outcome t.2)
  event_keeps c (Offer s) old new h t = offer_keeps share c s old new h
  event_keeps c (Report s) old new h t = report_keeps share c s old new h

  run_keeps : (c : Cell) (events : List Event) (old new : State) → IsTrueRun p old events new → count c (content share old) ≡ count c (content share new)
  run_keeps c [] old new r = ap (λ z. count c (content share z)) (sym r)
  run_keeps c (event ∷ events) old new r = event_keeps c event old r.0 r.1 r.2 ∙ run_keeps c events r.0 new r.3

-- from one branch on
pub keeps_share : (p : Problem) → IsStillProblem p → (searchers : ℕ) (branch : CoreBranch) → KeepsShare p (start_state searchers branch) branch
keeps_share p still searchers branch share gives events end run =
    let b = branch_of branch in
    let all = permutation_counts (content share end) (share b) (λ c. sym (run_keeps p still share gives c events (start_state searchers branch) end run) ∙ count_start share c searchers branch) in
    (all, λ e. subst (λ l. IsPermutation l (share b)) (idle_outs share end e) all)
