-- what a team answers
use Rattle.std.proofs.Common.{◌≡◌, ℕ, ◌+◌, ◌≤◌, List, [], ◌++◌, Option, None, Some, Result, Ok, Err, min, length, rules, arith, refl, sym, ap, subst, ◌∙◌, append-nil}
use Rattle.std.specs.Prelude.{IsPermutation, IfSome, Contains, MatchResult, IfOk, IfErr}
use Rattle.std.proofs.lemmas.List.Elements.{Contains-append_left}
use Rattle.std.proofs.lemmas.List.Sorted.{IsPermutation-refl, IsPermutation-append_left, IsPermutation-append_comm, Contains-permutation}
use Rattle.int_vectors.specs.Vectors.{Each}
use Rattle.cayley.specs.declared.found.FoundCell.{FoundCell}
use Rattle.cayley.specs.Problems.{Problem, IsProblem}
use Rattle.cayley.specs.Ties.{IsTieFree}
use Rattle.int_vectors.proofs.Each.{each_append}
use Rattle.cayley.specs.Stored.{cells_of}
use Rattle.branch_pool.specs.declared.pool.closing.Unclosed.{Unclosed}
use Rattle.branch_pool.specs.Seats.{PoolData, SeatData, AreAllSeats, offered_by, taken_by}
use Rattle.searcher.specs.declared.branches.Branch.{Branch}
use Rattle.searcher.specs.declared.expansions.HaltCause.{HaltCause}
use Rattle.searcher.specs.declared.expansions.HaltCause.TheVariants.{OutOfMemory}
use Rattle.searcher.specs.declared.searching.Found.{Found}
use Rattle.searcher.specs.declared.searching.Stopped.{Stopped}
use Rattle.searcher.specs.Workings.{FitsWorking}
use Rattle.searcher.specs.Expansions.{HasLowestNormal, ShowsTieAtEnd, HasNoTie}
use Rattle.searcher.specs.Searches.{IsFound, IsStopped, IsLeft, IsOfLeft, FindsShare, FindsSize, KeepShares, NeverFalls, all_shares, top}
use Rattle.searcher.proofs.Turns.{left_begin}
use Rattle.searcher.proofs.Results.{each_sorted, finds_share, finds_size}
use Rattle.search_team.specs.declared.stopping.TeamStopped.{TeamStopped}
use Rattle.search_team.specs.Accounts.{IsBalance, IsMade}
use Rattle.search_team.specs.Searchers.{IsWhole, IsDivided, given_by}
use Rattle.search_team.specs.Teams.{all_left, all_found, left_of, IsSharedFound, IsTeamStopped}
use Rattle.search_team.proofs.Balances.{balance_permuted, balance_then, shares_then}
use Rattle.search_team.proofs.Members.{if_none, not_some, each_made}
use Rattle.search_team.proofs.Summed.{given_back}
use Rattle.search_team.proofs.Chained.{led_then, cause_behind, tie_shown}

some_none : {X : Type 0} (x : X) → Some x ≡ None → ⊥
some_none x e = search (e, rules)

nothing_more : (n : ℕ) → n + 0 ≡ n
nothing_more n = omega arith

module _ (p : Problem) where
  -- ---- a stop without a rest
  pub stopped_with : (given : List Branch) (s : TeamStopped) (left : List Branch) (found : List FoundCell) → s.rest ≡ None → s.unoffered.items ≡ [] → all_left s.parts.items ≡ left → all_found s.parts.items ≡ found
      → KeepShares p given (cells_of found) left → Each found (HasLowestNormal p) → Each left (IsLeft p given)
      → IsOfLeft p left s.cause → ShowsTieAtEnd p s.cause → (IsTieFree p → HasNoTie s.cause)
      → IsTeamStopped p given s
  stopped_with given s left found none un e f shares normals led told tie untied =
      let same : left ≡ left_of s = sym e ∙ sym (ap (λ l. all_left s.parts.items ++ l) un ∙ append-nil (all_left s.parts.items)) in
      record {
        shares = λ n. subst (λ l. KeepShares p given (cells_of (all_found s.parts.items)) l) same (subst (λ x. KeepShares p given (cells_of x) left) (sym f) shares);
        shares_rest = if_none _ s.rest none;
        normals = subst (λ x. Each x (HasLowestNormal p)) (sym f) normals;
        led = λ n. subst (λ l. Each l (IsLeft p given)) same led;
        origin = if_none _ s.rest none;
        memory = λ h. absurd (not_some s.rest none h);
        closable = if_none _ s.rest none;
        told = subst (λ l. IsOfLeft p l s.cause) same told;
        behind = cause_behind p given left led s.cause told tie;
        untied = untied;
      }

  -- ---- before the first offer
  pub handed_back : (given : List Branch) (s : TeamStopped) → s.unoffered.items ≡ given → s.parts.items ≡ [] → s.rest ≡ None → s.cause ≡ OutOfMemory → IsTeamStopped p given s
  handed_back given s un parts none memory =
      let same : given ≡ left_of s = sym un ∙ ap (λ l. all_left l ++ s.unoffered.items) (sym parts) in
      let nothing : [] ≡ all_found s.parts.items = ap all_found (sym parts) in
      record {
        shares = λ n. subst (λ l. KeepShares p given (cells_of (all_found s.parts.items)) l) same (subst (λ x. KeepShares p given (cells_of x) given) nothing (λ share gives. IsPermutation-refl (all_shares share given)));
        shares_rest = if_none _ s.rest none;
        normals = subst (λ x. Each x (HasLowestNormal p)) nothing tt;
        led = λ n. subst (λ l. Each l (IsLeft p given)) same (left_begin p given);
        origin = if_none _ s.rest none;
        memory = λ h. memory;
        closable = if_none _ s.rest none;
        told = subst (λ c. IsOfLeft p (left_of s) c) (sym memory) tt;
        behind = cause_behind p given given (left_begin p given) s.cause (subst (λ c. IsOfLeft p given c) (sym memory) tt) (subst (λ c. ShowsTieAtEnd p c) (sym memory) tt);
        untied = λ f. subst HasNoTie (sym memory) tt;
      }

  -- ---- the pool couldn't be closed
  pub with_rest : (given : List Branch) (pool : PoolData) (seats : List (SeatData Branch)) (s : TeamStopped) (u : Unclosed Branch) (n : ℕ) (r : Option HaltCause) → AreAllSeats pool seats → 1 ≤ length pool.deques
      → IsWhole p (given_by given seats) (taken_by seats) (offered_by seats) (all_left s.parts.items) (all_found s.parts.items) n r
      → s.unoffered.items ≡ [] → s.cause ≡ OutOfMemory → s.rest ≡ Some u → u.pool ≡ pool → u.seats.items ≡ seats
      → IsTeamStopped p given s
  with_rest given pool seats s u n r all l a un memory some same_pool same_seats =
      let T = taken_by seats in
      let O = offered_by seats in
      let L = all_left s.parts.items in
      let F = all_found s.parts.items in
      let G = given_by given seats in
      let same : L ≡ left_of s = sym (ap (λ l. L ++ l) un ∙ append-nil L) in
      let back = given_back given pool seats all l in
      let come : IsPermutation (G ++ T) (given ++ T) = IsPermutation-append_left T G given back in
      let over : (b : Branch) → Contains (G ++ T) b → Contains (given ++ T) b = λ b c. Contains-permutation (G ++ T) (given ++ T) b come c in
      let shares : KeepShares p (given ++ T) (cells_of F) (L ++ O) = (balance_permuted p (G ++ T) (given ++ T) (O ++ L) (L ++ O) F F a.account.0 come (IsPermutation-append_comm O L) (IsPermutation-refl F) a.account.2).shares in
      let origin : Each (L ++ O) (IsMade p (given ++ T) (given ++ T)) =
      each_append (IsMade p (given ++ T) (given ++ T)) L O (each_made p (G ++ T) (given ++ T) (G ++ T) (given ++ T) over over L a.kept)
      (each_made p G (given ++ T) (G ++ T) (given ++ T) (λ b c. over b (Contains-append_left G T b c)) over O a.made) in
      let at_seats : (ss : List (SeatData Branch)) → ss ≡ seats → KeepShares p (given ++ taken_by ss) (cells_of F) (left_of s ++ offered_by ss) =
      λ ss e. subst (λ x. KeepShares p (given ++ taken_by x) (cells_of F) (left_of s ++ offered_by x)) (sym e) (subst (λ x. KeepShares p (given ++ T) (cells_of F) (x ++ O)) same shares) in
      let made_at : (ss : List (SeatData Branch)) → ss ≡ seats → Each (left_of s ++ offered_by ss) (IsMade p (given ++ taken_by ss) (given ++ taken_by ss)) =
      λ ss e. subst (λ x. Each (left_of s ++ offered_by x) (IsMade p (given ++ taken_by x) (given ++ taken_by x))) (sym e) (subst (λ x. Each (x ++ O) (IsMade p (given ++ T) (given ++ T))) same origin) in
      let there : (P : Unclosed Branch → Type 0) → P u → IfSome s.rest P = λ P h. subst (λ x. IfSome x P) (sym some) h in
      let not_none : s.rest ≡ None → ⊥ = λ e. some_none u (sym some ∙ e) in
      record {
        shares = λ e. absurd (not_none e);
        shares_rest = there _ (at_seats u.seats.items same_seats);
        normals = a.normals;
        led = λ e. absurd (not_none e);
        origin = there _ (made_at u.seats.items same_seats);
        memory = λ h. memory;
        closable = there _ (subst (λ q. AreAllSeats q u.seats.items) (sym same_pool) (subst (λ x. AreAllSeats pool x) (sym same_seats) all));
        told = subst (λ c. IsOfLeft p (left_of s) c) (sym memory) tt;
        behind = cause_behind p given [] tt s.cause (subst (λ c. IsOfLeft p [] c) (sym memory) tt) (subst (λ c. ShowsTieAtEnd p c) (sym memory) tt);
        untied = λ f. subst HasNoTie (sym memory) tt;
      }

  -- ---- after the close
  -- the search of the rest stopped
  pub stopped_then : (given left : List Branch) (F : List FoundCell) (n : ℕ) → IsDivided p given left F n → (stopped : Stopped) → IsStopped p left stopped → ShowsTieAtEnd p stopped.cause → (IsTieFree p → HasNoTie stopped.cause)
      → (s : TeamStopped) → s.rest ≡ None → s.unoffered.items ≡ [] → all_left s.parts.items ≡ stopped.left.items → all_found s.parts.items ≡ F ++ stopped.found.cells.items → s.cause ≡ stopped.cause
      → IsTeamStopped p given s
  stopped_then given left F n d stopped h tie untied s none un e f cause =
      stopped_with given s stopped.left.items (F ++ stopped.found.cells.items) none un e f
      (shares_then p given left stopped.left.items F stopped.found.cells.items d.account.2.shares h.cells)
      (each_append (HasLowestNormal p) F stopped.found.cells.items d.normals h.normals)
      (led_then p given left stopped.left.items d.led h.left)
      (subst (λ c. IsOfLeft p stopped.left.items c) (sym cause) h.cause) (subst (λ c. ShowsTieAtEnd p c) (sym cause) tie) (λ free. subst HasNoTie (sym cause) (untied free))

  -- a found list is a balance with nothing left
  found_balance : (left : List Branch) (f : Found) (h : IsFound p left f) → IsBalance p left [] f.cells.items h.solves.0
  found_balance left f h = record {
    shares = λ share gives. subst (λ l. IsPermutation (all_shares share left) l) (sym (append-nil (cells_of f.cells.items))) (h.cells share gives);
    costs = λ size cost gives costs. let e = h.solves.1 size cost gives costs in nothing_more h.solves.0 ∙ e;
  }

  -- all is found
  pub found_then : (given left : List Branch) (F : List FoundCell) (n : ℕ) → IsDivided p given left F n → (f : Found) → IsFound p left f → Each f.cells.items (λ (x : FoundCell). FitsWorking p x.cell)
      → (all : Found) → IsPermutation (F ++ f.cells.items) all.cells.items → NeverFalls (cells_of all.cells.items) → all.solves ≡ min (n + f.solves) top
      → IsSharedFound p given all
  found_then given left F n d f h fit all moved order solves =
      let b = balance_then p given left [] F f.cells.items d.account.0 h.solves.0 d.account.2 (found_balance left f h) in
      let c = balance_permuted p given given [] [] (F ++ f.cells.items) all.cells.items (d.account.0 + h.solves.0) (IsPermutation-refl given) (IsPermutation-refl []) moved b in (
        record {
          cells = λ share gives. subst (λ l. IsPermutation (all_shares share given) l) (append-nil (cells_of all.cells.items)) (c.shares share gives);
          order = order;
          normals = each_sorted (HasLowestNormal p) (F ++ f.cells.items) all.cells.items moved (each_append (HasLowestNormal p) F f.cells.items d.normals h.normals);
          solves = (
            d.account.0 + h.solves.0,
            (λ size cost gives costs. sym (nothing_more (d.account.0 + h.solves.0)) ∙ c.costs size cost gives costs),
            (let x = d.account.1 in let y = h.solves.2 in omega (arith, x, y, solves)),
          );
        },
        each_sorted (λ (x : FoundCell). FitsWorking p x.cell) (F ++ f.cells.items) all.cells.items moved (each_append (λ (x : FoundCell). FitsWorking p x.cell) F f.cells.items d.fit fit),
      )

  -- there was no memory for the list
  pub ungathered : (given left : List Branch) (F : List FoundCell) (n : ℕ) → IsDivided p given left F n → (f : Found) → IsFound p left f
      → (s : TeamStopped) → s.rest ≡ None → s.unoffered.items ≡ [] → all_left s.parts.items ≡ [] → IsPermutation (F ++ f.cells.items) (all_found s.parts.items) → s.cause ≡ OutOfMemory
      → IsTeamStopped p given s
  ungathered given left F n d f h s none un e moved memory =
      let b = balance_then p given left [] F f.cells.items d.account.0 h.solves.0 d.account.2 (found_balance left f h) in
      let c = balance_permuted p given given [] [] (F ++ f.cells.items) (all_found s.parts.items) (d.account.0 + h.solves.0) (IsPermutation-refl given) (IsPermutation-refl []) moved b in
      stopped_with given s [] (all_found s.parts.items) none un e refl c.shares
      (each_sorted (HasLowestNormal p) (F ++ f.cells.items) (all_found s.parts.items) moved (each_append (HasLowestNormal p) F f.cells.items d.normals h.normals)) tt
      (subst (λ c. IsOfLeft p [] c) (sym memory) tt) (subst (λ c. ShowsTieAtEnd p c) (sym memory) tt) (λ free. subst HasNoTie (sym memory) tt)

-- ---- the public clauses
module _ (p : Problem) (given : List Branch) where
  pub ok_found : (r : Result Found TeamStopped) → MatchResult r (IsSharedFound p given) (IsTeamStopped p given) → MatchResult r (IsFound p given) (IsTeamStopped p given)
  ok_found (Ok f) h = h.0
  ok_found (Err s) h = h

  pub ok_share : IsProblem p → (r : Result Found TeamStopped) → MatchResult r (IsSharedFound p given) (IsTeamStopped p given) → IfOk r (FindsShare p given)
  ok_share well (Ok f) h = finds_share p well given f h.0
  ok_share well (Err s) h = tt

  pub ok_size : IsProblem p → (r : Result Found TeamStopped) → MatchResult r (IsSharedFound p given) (IsTeamStopped p given) → IfOk r (FindsSize p given)
  ok_size well (Ok f) h = finds_size p well given f h.0
  ok_size well (Err s) h = tt

  pub ok_fit : (r : Result Found TeamStopped) → MatchResult r (IsSharedFound p given) (IsTeamStopped p given) → IfOk r (λ (f : Found). Each f.cells.items (λ (x : FoundCell). FitsWorking p x.cell))
  ok_fit (Ok f) h = h.1
  ok_fit (Err s) h = tt

  pub err_tie : (r : Result Found TeamStopped) → MatchResult r (IsSharedFound p given) (IsTeamStopped p given) → IfErr r (λ (s : TeamStopped). ShowsTieAtEnd p s.cause)
  err_tie (Ok f) h = tt
  err_tie (Err s) h = tie_shown p given s.cause h.behind

  pub err_untied : (r : Result Found TeamStopped) → MatchResult r (IsSharedFound p given) (IsTeamStopped p given) → IsTieFree p → IfErr r (λ (s : TeamStopped). HasNoTie s.cause)
  err_untied (Ok f) h free = tt
  err_untied (Err s) h free = h.untied free
