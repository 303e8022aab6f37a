-- what an expansion gives
use Rattle.std.proofs.Common.{◌≡◌, ◌≤◌, ℕ, ◌+◌, List, [], ◌∷◌, min, map, arith, refl, ap, inl, inr}
use Rattle.std.specs.Prelude.{sum_by}
use Rattle.std.proofs.lemmas.List.Sums.{sum_by-cons}
use Rattle.int_vectors.specs.Vectors.{Each}
use Rattle.cayley.specs.Problems.{Problem}
use Rattle.cayley.specs.Valid.{IsStillProblem}
use Rattle.cayley.specs.Cells.{Cell}
use Rattle.cayley.specs.Parents.{IsParent}
use Rattle.cayley.specs.Shares as shares
use Rattle.cayley.specs.Shares.{IsTrueBranch, IsChildren, Solved}
use Rattle.cayley.proofs.Life.Decisions.{dec_of}
use Rattle.cayley.proofs.Searching.Listing.{Has, has-map}
use Rattle.cayley.proofs.Searching.Shares.{true_of, list_has}
use Rattle.cayley.proofs.Searching.Steps.{keeps_begin, cost_step, cost_stranger, cost_foreign, each_in}
use Rattle.cayley.specs.Stored.{cells_of}
use Rattle.cayley.proofs.Order.Lined.{each_has}
use Rattle.searcher.specs.declared.branches.Branch.{Branch}
use Rattle.searcher.specs.declared.expansions.Expansion.{Expansion}
use Rattle.searcher.specs.declared.expansions.Expansion.TheVariants.{Inner, Target, Endless, Stranger}
use Rattle.searcher.specs.Branches.{branch_of, branches_of, children_of}
use Rattle.searcher.specs.Expansions.{IsExpansion}
use Rattle.searcher.specs.Searches.{KeepShares, opened, found_in, top}
use Rattle.searcher.proofs.Turns.{IsTurn, turn_of, turn_keeps}
use Rattle.search_team.specs.Accounts.{CostMore, IsBalance, IsChildOf}

-- so many cells were solved, and the branch costs as many more than its children
abbrev Costs : Problem → Branch → List Branch → ℕ → ℕ → Type 0
Costs p b kids old new = (k : ℕ) × (new ≡ min (old + k) top) × CostMore p (b ∷ []) kids k

module _ (p : Problem) (still : IsStillProblem p) (b : Branch) (kids : List Branch) (old new : ℕ) (few : old ≤ top) (s : Solved p top (branch_of b) old new) where
  costs_of : (own : List Cell) → IsTurn p (branch_of b) own (branches_of kids) → Costs p b kids old new
  costs_of own (inl t) = (
    1,
    s.0 (true_of p (branch_of b) t.0),
    (λ size cost gives costs.
        let k = cost_step p still.problem size gives cost costs (branch_of b) t.0 (branches_of kids) t.2 in
        let l = sum_by-cons cost (branch_of b) [] in
        omega (arith, k, l)),
  )
  costs_of own (inr t) = elim (dec_of p b.cell) [
    | yes of ↦ (
      1,
      s.0 of,
      (λ size cost gives costs.
          let k = cost_stranger p still.problem size gives cost costs (branch_of b) t.0 of in
          let l = sum_by-cons cost (branch_of b) [] in
          let z = ap (sum_by cost) t.2 in
          omega (arith, k, l, z)),
    )
    | no m ↦ (
      0,
      (let e = s.1 m in omega (arith, e, few)),
      (λ size cost gives costs.
          let k = cost_foreign p still.problem size gives cost costs (branch_of b) m in
          let l = sum_by-cons cost (branch_of b) [] in
          let z = ap (sum_by cost) t.2 in
          omega (arith, k, l, z)),
    )
  ]

module _ (p : Problem) (still : IsStillProblem p) (b : Branch) (e : Expansion) (is : IsExpansion p b e) where
  expansion_shares : KeepShares p (b ∷ []) (cells_of (found_in e)) (opened e)
  expansion_shares = λ share gives. turn_keeps p still b (b ∷ []) [] refl e is share gives (b ∷ []) [] (keeps_begin share (branches_of (b ∷ [])))

  pub expansion_balance : (old new : ℕ) → old ≤ top → Solved p top (branch_of b) old new → (k : ℕ) × (new ≡ min (old + k) top) × IsBalance p (b ∷ []) (opened e) (found_in e) k
  expansion_balance old new few s =
      let c = costs_of p still b (opened e) old new few s (cells_of (found_in e)) (turn_of p still b e is) in
      (c.0, c.1, record { shares = expansion_shares; costs = c.2 })

-- the branches that it opens are children
child_of : (p : Problem) (b : Branch) (kids : List Branch) → IsChildren p b.cell (branches_of kids) → (k : Branch) → Has k kids → IsChildOf p b k
child_of p b kids children k h =
    let there = has-map branch_of k kids h in (
      each_has (IsTrueBranch p) (branches_of kids) (branch_of k) children.0 there,
      list_has (λ c. IsParent p b.cell c) (map (λ (x : shares.Branch). x.cell) (branches_of kids)) children.1 k.cell (has-map (λ (x : shares.Branch). x.cell) (branch_of k) (branches_of kids) there),
    )

pub opened_children : (p : Problem) (b : Branch) (e : Expansion) → IsExpansion p b e → Each (opened e) (IsChildOf p b)
opened_children p b (Inner children) h = each_in (IsChildOf p b) (children_of children) (child_of p b (children_of children) h.1)
opened_children p b (Target found) h = tt
opened_children p b Endless h = tt
opened_children p b (Stranger branch) h = tt
