-- what comes of a cell until time 1
use Rattle.std.proofs.Common.{◌≡◌, ◌⊎◌, inl, inr, refl, subst, List, [], ◌∷◌}
use Rattle.int_vectors.specs.Vectors.{Each}
use Rattle.cayley.specs.Times.{Time, IsBefore, IsSameTime, time_zero}
use Rattle.cayley.specs.Problems.{Problem, IsProblem}
use Rattle.cayley.specs.Cells.{Cell}
use Rattle.cayley.specs.Mixed.{IsAlive}
use Rattle.cayley.specs.Lives.{AliveLate, AliveJustAfter, BeginsAt, EndsAt}
use Rattle.cayley.specs.Parents.{IsParent, InChain}
use Rattle.cayley.specs.Parents.InChain.{here, up}
use Rattle.cayley.specs.Shares.{IsChildren}
use Rattle.cayley.specs.Shares as shares
use Rattle.cayley.proofs.Order.Lines.{before_trans, earlier, middle}
use Rattle.cayley.proofs.Order.Times.{time_cases, never_before, same_before, before_same, trans_before}
use Rattle.cayley.proofs.Life.LifeLaws.{life_law, once_law, parent_law, child_law}
use Rattle.cayley.proofs.Searching.Listing.{Has, has-map}
use Rattle.cayley.proofs.Searching.Shares.{list_has}
use Rattle.searcher.specs.declared.branches.Branch.{Branch}
use Rattle.searcher.specs.declared.expansions.Children.{Children}
use Rattle.searcher.specs.declared.expansions.Children.TheVariants.{None, One, Two}
use Rattle.searcher.specs.Branches.{branch_of, branches_of, children_of}
use Rattle.searcher.specs.Passes.{time_one, IsOnItsWay, IsReachedFrom, followed_by}

-- ---- times
pub before_least : (t u v : Time) → IsBefore t u → ¬ (IsBefore v u) → IsBefore t v
before_least t u v a n = time_cases u v (λ l. before_trans t u v a (inl l)) (λ s. before_same t u v s a) (λ l. absurd (n l))

pub least_before : (t u v : Time) → ¬ (IsBefore u t) → IsBefore u v → IsBefore t v
least_before t u v n a = time_cases t u (λ l. before_trans t u v l (inl a)) (λ s. trans_before t u v (inr s) a) (λ l. absurd (n l))

module _ (p : Problem) (well : IsProblem p) where
  -- ---- a cell is alive after it begins and before it ends
  pub since : (cell : Cell) (b t : Time) → BeginsAt p cell b → IsAlive p cell t → IsBefore b t
  since cell b t h a = elim (life_law p cell t well a).early [
    | inl e ↦ absurd ((once_law p cell well).2 b e h)
    | inr r ↦ same_before r.0 b t ((once_law p cell well).0 r.0 b r.2 h) r.1
  ]

  pub ends_after : (cell : Cell) (e t : Time) → EndsAt p cell e → IsAlive p cell t → IsBefore t e
  ends_after cell e t h a = elim (life_law p cell t well a).late [
    | inl l ↦ absurd ((once_law p cell well).3 e l h)
    | inr r ↦ before_same t r.0 e ((once_law p cell well).1 r.0 e r.2 h) r.1
  ]

  -- ---- what has a cell in its chain begins where it ends or later
  behind : (sigma tau : Cell) (u : Time) → EndsAt p sigma u → InChain p sigma tau → (tau ≡ sigma) ⊎ ((b : Time) × BeginsAt p tau b × ¬ (IsBefore b u))
  behind sigma tau u e here = inl refl
  behind sigma tau u e (up {rho = rho} q h) =
      let l = parent_law p rho tau q.0 well q.1 q in
      elim (behind sigma rho u e h) [
        | inl r ↦ inr (q.0, q.1, λ b. never_before u (same_before q.0 u u ((once_law p sigma well).1 q.0 u (subst (λ x. EndsAt p x q.0) r l.0) e) b))
        | inr k ↦ inr (q.0, q.1, λ b. k.2 (before_trans k.0 q.0 u (l.1 k.0 k.1) (inl b)))
      ]

  -- so of those only the cell itself can be alive at 1, where it doesn't end before
  pub itself_alone : (sigma : Cell) (u : Time) → EndsAt p sigma u → ¬ (IsBefore u time_one) → (tau : Cell) → IsReachedFrom p sigma tau → tau ≡ sigma
  itself_alone sigma u e n tau r = elim (behind sigma tau u e r.1) [
    | inl q ↦ q
    | inr k ↦ absurd (k.2 (before_least k.0 time_one u (since tau k.0 time_one k.1 r.0) n))
  ]

  -- a cell that doesn't end is in no other's chain
  pub endless_alone : (sigma tau : Cell) → AliveLate p sigma → InChain p sigma tau → tau ≡ sigma
  endless_alone sigma tau l here = refl
  endless_alone sigma tau l (up {rho = rho} q h) = absurd ((child_law p sigma tau well).1 l (subst (λ x. IsParent p x tau) (endless_alone sigma rho l h) q))

  -- where a cell ends at 1 nothing is there
  pub none_at_one : (sigma : Cell) (u : Time) → EndsAt p sigma u → IsSameTime u time_one → (tau : Cell) → ¬ (IsReachedFrom p sigma tau)
  none_at_one sigma u e s tau r =
      let q = itself_alone sigma u e (λ b. never_before time_one (same_before u time_one time_one s b)) tau r in
      let b = ends_after sigma u time_one e (subst (λ x. IsAlive p x time_one) q r.0) in
      never_before time_one (before_same time_one u time_one s b)

  -- ---- children
  -- what begins before 1, after a time that isn't before 0, is on its way
  under_way : (tau : Cell) (b s : Time) → AliveJustAfter p tau b → ¬ (IsBefore s time_zero) → IsBefore s b → IsBefore b time_one → IsOnItsWay p tau
  under_way tau b s a n after before =
      let w = earlier b a.0 time_one a.1 before in
      let m = middle b w.w w.after in
      (m.m, (λ l. n (before_trans s m.m time_zero (before_trans s b m.m after (inl m.after)) (inl l))), w.second m.m m.before, a.2 m.m m.after (w.first m.m m.before))

  module _ (sigma : Cell) (way : IsOnItsWay p sigma) (u : Time) (ends : EndsAt p sigma u) (soon : IsBefore u time_one) where
    child_on_its_way : (tau : Cell) → IsParent p sigma tau → IsOnItsWay p tau
    child_on_its_way tau q =
        let l = parent_law p sigma tau q.0 well q.1 q in
        under_way tau q.0 way.0 q.1.0 way.1 (ends_after sigma q.0 way.0 l.0 way.3)
        (same_before u q.0 time_one ((once_law p sigma well).1 u q.0 ends l.0) soon)

    kid : (kids : List Branch) → IsChildren p sigma (branches_of kids) → (k : Branch) → Has k kids → IsOnItsWay p k.cell
    kid kids children k h =
        child_on_its_way k.cell
        (list_has (λ c. IsParent p sigma c) _ children.1 k.cell (has-map (λ (b : shares.Branch). b.cell) (branch_of k) (branches_of kids) (has-map branch_of k kids h)))

    pub children_on_their_way : (children : Children) → IsChildren p sigma (branches_of (children_of children)) → Each (followed_by children) (IsOnItsWay p)
    children_on_their_way None c = tt
    children_on_their_way (One first) c = (kid (first ∷ []) c first (inl refl), tt)
    children_on_their_way (Two first second) c = (kid (first ∷ second ∷ []) c second (inr (inl refl)), (kid (first ∷ second ∷ []) c first (inl refl), tt))

    pub ended_before_one : ¬ (IsAlive p sigma time_one)
    ended_before_one a = never_before time_one (before_trans time_one u time_one (ends_after sigma u time_one ends a) (inl soon))

-- a time that a cell reaches from its way isn't before 0
pub after_zero : (s t : Time) → ¬ (IsBefore s time_zero) → IsBefore s t → IsBefore time_zero t
after_zero s t n b = least_before time_zero s t n b
