-- what the walk has written down at its end, and what a halt tells
use Rattle.std.proofs.Common.{◌≡◌, ℕ, ◌≤◌, List, [], ◌∷◌, ◌++◌, length, min, arith, refl, sym, subst, inl, inr, append-nil}
use Rattle.std.specs.Prelude.{IsPermutation, Vec}
use Rattle.std.specs.Global.{Global}
use Rattle.int_vectors.specs.Vectors.{Each}
use Rattle.cayley.specs.declared.found.FoundCell.{FoundCell}
use Rattle.cayley.specs.Problems.{Problem}
use Rattle.cayley.specs.Valid.{IsValidProblem}
use Rattle.cayley.specs.Paths.{start_cell}
use Rattle.cayley.specs.Cells.{Cell}
use Rattle.cayley.specs.Parents.{IsParent, InChain, IsInTree}
use Rattle.cayley.specs.Shares.{IsShare, IsSize}
use Rattle.cayley.specs.Ties.{IsTieFree}
use Rattle.cayley.proofs.Searching.Members.{contains_has}
use Rattle.cayley.proofs.Searching.Shares.{a_size}
use Rattle.cayley.proofs.Searching.Steps.{size_some}
use Rattle.cayley.specs.Stored.{cells_of}
use Rattle.start_system.specs.Started.{start_branch, IsStarted, IsSearched, IsTreeSize}
use Rattle.start_system.proofs.Started.SearchLaws.{started_law}
use Rattle.searcher.specs.declared.branches.Branch.{Branch}
use Rattle.searcher.specs.declared.expansions.HaltCause.{HaltCause}
use Rattle.searcher.specs.declared.expansions.HaltCause.TheVariants.{Tie, Overflow, OutOfMemory}
use Rattle.searcher.specs.declared.searching.Found.{Found}
use Rattle.searcher.specs.Ends.{IsTiedAtEnd}
use Rattle.searcher.specs.Expansions.{IsCause, HasLowestNormal, ShowsTieAtEnd, HasNoTie}
use Rattle.searcher.specs.Searches.{CostOf, IsFound, IsLeft, NeverFalls, top}
use Rattle.searcher.specs.Workings.{FitsWorking}
use Rattle.searcher.proofs.Results.{all_found, each_sorted, finds_share, cost_of_one, cause_left}
use Rattle.search_team.specs.Accounts.{IsBalance}
use Rattle.search_team.specs.Teams.{IsBehind, IsCauseBehind}
use Rattle.search_team.specs.PathSearches.{IsHalted}
use Rattle.search_team.proofs.Chained.{cause_behind}
use Rattle.path_trace.specs.declared.trace.Trace.{Trace}
use Rattle.path_trace.specs.Preorders.{IsPreorder, cells_in}
use Rattle.path_trace.specs.Preorders.ArePreorders.{none}
use Rattle.search_team.proofs.Starts.{first_in}
use Rattle.path_tracer.specs.Nodes.{HasInverse, FitsNumbers}
use Rattle.path_tracer.specs.Traced.{IsTraced}
use Rattle.path_tracer.proofs.Walks.{start_of, IsOnWay}

module _ (p : Problem) (valid : IsValidProblem p) (started : IsStarted p) where
  pub searched : IsSearched p
  searched = started_law p valid started

  some_tree : (n : ℕ) × IsTreeSize p n × IsSize p (start_branch p) n × (1 ≤ n)
  some_tree =
      let n = a_size p valid.shape.problem (start_branch p) in
      (n.0, (searched.size n.0).0 n.1, n.1, size_some p (start_branch p) n.0 n.1 searched.early.0)

  no_parent : (rho : Cell) → ¬ (IsParent p rho (start_cell p))
  no_parent =
      let t = some_tree in
      (first_in (IsInTree p (start_cell p)) t.1.0 (λ cell h. (t.1.1.1 cell).0 h) (subst (λ k. 1 ≤ k) (sym t.1.2) t.3)).1.0

  -- ---- the end
  costs : (n : ℕ) (found : List FoundCell) (left : List Branch) → left ≡ [] → IsBalance p (start_of p ∷ []) left found n → CostOf p (start_of p ∷ []) n
  costs n found left empty b = λ size cost gives given.
      let c = (subst (λ l. IsBalance p (start_of p ∷ []) l found n) empty b).costs size cost gives given in omega (arith, c)

  tree_size : (n : ℕ) (found : List FoundCell) (left : List Branch) → left ≡ [] → IsBalance p (start_of p ∷ []) left found n → IsTreeSize p n
  tree_size n found left empty b =
      let t = some_tree in
      subst (IsTreeSize p) (sym (cost_of_one p valid.shape.problem (start_of p ∷ []) n (costs n found left empty b) (start_of p) t.0 refl t.2 t.3)) t.1

  share : (n : ℕ) (found : List FoundCell) (sorted : Vec FoundCell Global) (left : List Branch) → left ≡ [] → IsPermutation found sorted.items → NeverFalls (cells_of sorted.items) → Each found (HasLowestNormal p)
      → IsBalance p (start_of p ∷ []) left found n → IsShare p (start_branch p) (cells_of sorted.items)
  share n found sorted left empty moved order normals b =
      let whole : Found = record { cells = sorted; solves = min n top } in
      let is : IsFound p (start_of p ∷ []) whole = record {
        cells = all_found p (start_of p ∷ []) left found sorted.items empty moved b.shares;
        order = order;
        normals = each_sorted (HasLowestNormal p) found sorted.items moved normals;
        solves = (n, costs n found left empty b, refl);
      } in
      finds_share p valid.shape.problem (start_of p ∷ []) whole is (start_of p) refl

  pub traced : (found : List FoundCell) (left : List Branch) (trace : Trace) → left ≡ [] → IsPermutation found trace.found.items → NeverFalls (cells_of trace.found.items) → Each found (HasLowestNormal p)
      → IsBalance p (start_of p ∷ []) left found (length trace.nodes.items) → IsOnWay p left trace.nodes.items → Each trace.nodes.items (HasInverse p) → Each trace.nodes.items FitsNumbers
      → Each trace.nodes.items (λ node. FitsWorking p node.cell) → Each trace.nodes.items (λ node. ¬ (IsTiedAtEnd p node.cell)) → IsTraced p trace
  traced found left trace empty moved order normals balance way inverses fits workings untied = record {
    preorder = subst (IsPreorder p (start_cell p)) (append-nil (cells_in trace.nodes.items)) (subst (λ l. IsOnWay p l trace.nodes.items) empty way [] none);
    size = tree_size (length trace.nodes.items) found left empty balance;
    inverses = inverses;
    fits = fits;
    workings = workings;
    untied = untied;
    found = share (length trace.nodes.items) found trace.found left empty moved order normals balance;
    normals = each_sorted (HasLowestNormal p) found trace.found.items moved normals;
  }

  -- ---- a halt
  in_tree : (cell : Cell) → IsBehind p (start_of p ∷ []) cell → IsInTree p (start_cell p) cell
  in_tree cell b = elim (contains_has (start_of p ∷ []) b.0 b.1) [
    | inl e ↦ (no_parent, subst (λ (x : Branch). InChain p x.cell cell) e b.2)
    | inr n ↦ absurd n
  ]

  halted_by : (cause : HaltCause) → IsCauseBehind p (start_of p ∷ []) cause → (IsTieFree p → HasNoTie cause) → IsHalted p cause
  halted_by (Tie proof) h untied = (untied, h.0, in_tree proof.cell h.1)
  halted_by (Overflow cell) h untied = (in_tree cell h.2, h.1)
  halted_by OutOfMemory h untied = tt

  pub halted : (left rest : List Branch) (b : Branch) (cause : HaltCause) → left ≡ rest ++ b ∷ [] → Each left (IsLeft p (start_of p ∷ [])) → IsCause p b cause → ShowsTieAtEnd p cause → (IsTieFree p → HasNoTie cause) → IsHalted p cause
  halted left rest b cause popped led is tie untied =
      halted_by cause (cause_behind p (start_of p ∷ []) left led cause (cause_left p left rest b cause popped is) tie) untied
