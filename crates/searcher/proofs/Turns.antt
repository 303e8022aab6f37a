-- a turn of the search: the last branch is expanded
use Rattle.std.proofs.Common.{◌≡◌, ◌⊎◌, ℕ, ◌+◌, ◌<◌, ◌≤◌, List, [], ◌∷◌, ◌++◌, map, arith, refl, sym, ap, subst, ◌∙◌, inl, inr, append-nil}
use Rattle.std.specs.Prelude.{sum_by}
use Rattle.std.proofs.lemmas.List.{map-append}
use Rattle.int_vectors.specs.Vectors.{Each}
use Rattle.cayley.specs.declared.found.FoundCell.{FoundCell}
use Rattle.cayley.specs.Problems.{Problem, IsProblem, IsStill}
use Rattle.cayley.specs.Valid.{IsValidProblem, IsStillProblem}
use Rattle.cayley.specs.Cells.{Cell, IsOf}
use Rattle.cayley.specs.Mixed.{IsMixedCell}
use Rattle.cayley.specs.Parents.{IsParent}
use Rattle.cayley.specs.Shares as shares
use Rattle.cayley.specs.Shares.{IsTrueBranch, IsOwn, IsChildren, IsLed, GivesShares, GivesSizes, GivesCosts, Solved}
use Rattle.int_vectors.proofs.Each.{each_append}
use Rattle.cayley.proofs.Life.Decisions.{dec_of}
use Rattle.cayley.proofs.Life.LifeLaws.{share_law}
use Rattle.cayley.proofs.Life.Targets.{target_law}
use Rattle.cayley.proofs.Searching.Listing.{Has, has-left, has-right, has-map}
use Rattle.cayley.proofs.Searching.Members.{has_contains, contains_has}
use Rattle.cayley.proofs.Searching.Shares.{true_of, list_has, no_share}
use Rattle.cayley.proofs.Searching.Steps.{Keeps, Counts, weight, keeps_step, keeps_drop, inner_falls, drop_falls, counts_step, counts_drop, led_given, led_child, each_in}
use Rattle.cayley.specs.Stored.{cells_of}
use Rattle.cayley.proofs.Order.Lined.{each_has}
use Rattle.cayley.proofs.Life.Exits.{late_children}
use Rattle.searcher.specs.declared.branches.Branch.{Branch}
use Rattle.searcher.specs.declared.expansions.Expansion.{Expansion}
use Rattle.searcher.specs.declared.expansions.Expansion.TheVariants.{Inner, Target, Endless, Stranger}
use Rattle.searcher.specs.Branches.{branch_of, branches_of, children_of}
use Rattle.searcher.specs.Workings.{FitsWorking}
use Rattle.searcher.specs.Expansions.{IsExpansion, HasLowestNormal}
use Rattle.searcher.specs.Searches.{IsLeft, IsCount, opened, found_in, top}

pub is_still_problem : (p : Problem) → IsValidProblem p → IsStill p → IsStillProblem p
is_still_problem p valid still = record { problem = valid.shape.problem; ranks = valid.ranks; still = still; corners = valid.shape.moving }

pub well_of : (p : Problem) → IsValidProblem p → IsProblem p
well_of p valid = valid.shape.problem

-- a true branch with its own cell and its children, or one that isn't true and has nothing
abbrev pub IsTurn : Problem → shares.Branch → List Cell → List shares.Branch → Type 0
IsTurn p b own kids = (IsTrueBranch p b × IsOwn (IsMixedCell p) b.cell own × IsChildren p b.cell kids) ⊎ (¬ (IsTrueBranch p b) × (own ≡ []) × (kids ≡ []))

pub turn_of : (p : Problem) → IsStillProblem p → (b : Branch) (e : Expansion) → IsExpansion p b e → IsTurn p (branch_of b) (cells_of (found_in e)) (branches_of (opened e))
turn_of p still b (Inner children) h = inl (h.0.0.2, inr ((λ m. h.0.2 (target_law p b.cell still m)), refl), h.1)
turn_of p still b (Target found) h = inl (h.0.0.2, inl (h.2, ap (λ c. c ∷ []) h.1), late_children p b.cell still.problem h.0.2)
turn_of p still b Endless h = inl (h.0.2, inr ((λ m. h.3 m.0), refl), late_children p b.cell still.problem h.2)
turn_of p still b (Stranger branch) (inl n, e) = inr ((λ t. n (true_of p (branch_of b) t)), refl, refl)
turn_of p still b (Stranger branch) (inr n, e) = inr (n.1, refl, refl)

-- ---- the lists as the laws see them
pub opened_list : (rest kids : List Branch) → branches_of (rest ++ kids) ≡ branches_of rest ++ branches_of kids
opened_list rest kids = map-append branch_of rest kids

pub popped_list : (left rest : List Branch) (b : Branch) → left ≡ rest ++ b ∷ [] → branches_of left ≡ branches_of rest ++ branch_of b ∷ []
popped_list left rest b e = ap branches_of e ∙ map-append branch_of rest (b ∷ [])

pub found_list : (found more : List FoundCell) → cells_of (found ++ more) ≡ cells_of found ++ cells_of more
found_list found more = map-append (λ (f : FoundCell). f.cell) found more

-- ---- what a turn keeps
module _ (p : Problem) (well : IsProblem p) (b : shares.Branch) (left rest : List shares.Branch) (popped : left ≡ rest ++ b ∷ []) (own : List Cell) (kids : List shares.Branch) where
  keeps : IsTurn p b own kids → (share : shares.Branch → List Cell) → GivesShares p share → (given : List shares.Branch) (found : List Cell) → Keeps share given found left → Keeps share given (found ++ own) (rest ++ kids)
  keeps (inl t) share gives given found k =
      keeps_step share given found rest b own kids ((share_law p b kids well t.0 t.2).0 share own gives t.1) (subst (λ l. Keeps share given found l) popped k)
  keeps (inr t) share gives given found k =
      subst (λ l. Keeps share given l (rest ++ kids)) (sym (ap (λ o. found ++ o) t.1 ∙ append-nil found))
      (subst (λ l. Keeps share given found l) (sym (ap (λ k. rest ++ k) t.2 ∙ append-nil rest))
      (keeps_drop share given found rest b (no_share p (IsMixedCell p) b (share b) t.0 (gives b)) (subst (λ l. Keeps share given found l) popped k)))

  counts : IsTurn p b own kids → (size cost : shares.Branch → ℕ) → GivesSizes p size → GivesCosts p size cost → (given : List shares.Branch) (old new : ℕ)
      → Solved p top b old new → Counts cost top given old left → Counts cost top given new (rest ++ kids)
  counts (inl t) size cost gives costs given old new s c = counts_step p well size cost gives costs top given left rest b popped t.0 kids t.2 old new s c
  counts (inr t) size cost gives costs given old new s c =
      subst (λ l. Counts cost top given new l) (sym (ap (λ k. rest ++ k) t.2 ∙ append-nil rest)) (counts_drop p well size cost gives costs top given left rest b popped t.0 old new s c)

  falls : IsTurn p b own kids → (size : shares.Branch → ℕ) → GivesSizes p size → sum_by (weight size) (rest ++ kids) < sum_by (weight size) left
  falls (inl t) size gives = inner_falls p well size gives b left rest popped t.0 kids t.2
  falls (inr t) size gives =
      subst (λ l. sum_by (weight size) l < sum_by (weight size) left) (sym (ap (λ k. rest ++ k) t.2 ∙ append-nil rest)) (drop_falls p well size gives b left rest popped)

module _ (p : Problem) (still : IsStillProblem p) (b : Branch) (left rest : List Branch) (popped : left ≡ rest ++ b ∷ []) (e : Expansion) (is : IsExpansion p b e) where
  pub turn_keeps : (share : shares.Branch → List Cell) → GivesShares p share → (given : List Branch) (found : List FoundCell)
      → Keeps share (branches_of given) (cells_of found) (branches_of left) → Keeps share (branches_of given) (cells_of (found ++ found_in e)) (branches_of (rest ++ opened e))
  turn_keeps share gives given found k =
      subst (λ l. Keeps share (branches_of given) l (branches_of (rest ++ opened e))) (sym (found_list found (found_in e)))
      (subst (λ l. Keeps share (branches_of given) (cells_of found ++ cells_of (found_in e)) l) (sym (opened_list rest (opened e)))
      (keeps p still.problem (branch_of b) (branches_of left) (branches_of rest) (popped_list left rest b popped) (cells_of (found_in e)) (branches_of (opened e)) (turn_of p still b e is) share gives (branches_of given) (cells_of found) k))

  pub turn_counts : (size cost : shares.Branch → ℕ) → GivesSizes p size → GivesCosts p size cost → (given : List Branch) (old new : ℕ)
      → Solved p top (branch_of b) old new → Counts cost top (branches_of given) old (branches_of left) → Counts cost top (branches_of given) new (branches_of (rest ++ opened e))
  turn_counts size cost gives costs given old new s c =
      subst (λ l. Counts cost top (branches_of given) new l) (sym (opened_list rest (opened e)))
      (counts p still.problem (branch_of b) (branches_of left) (branches_of rest) (popped_list left rest b popped) (cells_of (found_in e)) (branches_of (opened e)) (turn_of p still b e is) size cost gives costs (branches_of given) old new s c)

  pub turn_falls : (size : shares.Branch → ℕ) → GivesSizes p size → sum_by (weight size) (branches_of (rest ++ opened e)) < sum_by (weight size) (branches_of left)
  turn_falls size gives =
      subst (λ l. sum_by (weight size) l < sum_by (weight size) (branches_of left)) (sym (opened_list rest (opened e)))
      (falls p still.problem (branch_of b) (branches_of left) (branches_of rest) (popped_list left rest b popped) (cells_of (found_in e)) (branches_of (opened e)) (turn_of p still b e is) size gives)

-- ---- normals
normal_found : (p : Problem) (b : Branch) (e : Expansion) → IsExpansion p b e → Each (found_in e) (HasLowestNormal p)
normal_found p b (Inner children) h = tt
normal_found p b (Target found) h = (h.3, tt)
normal_found p b Endless h = tt
normal_found p b (Stranger branch) h = tt

pub turn_normals : (p : Problem) (b : Branch) (e : Expansion) → IsExpansion p b e → (found : List FoundCell) → Each found (HasLowestNormal p) → Each (found ++ found_in e) (HasLowestNormal p)
turn_normals p b e is found n = each_append (HasLowestNormal p) found (found_in e) n (normal_found p b e is)

-- ---- workings
abbrev pub HasFit : Problem → FoundCell → Type 0
HasFit p found = FitsWorking p found.cell

fit_found : (p : Problem) (b : Branch) (e : Expansion) → IsExpansion p b e → Each (found_in e) (HasFit p)
fit_found p b (Inner children) h = tt
fit_found p b (Target found) h = (subst (FitsWorking p) (sym h.1) h.0.0.1, tt)
fit_found p b Endless h = tt
fit_found p b (Stranger branch) h = tt

pub turn_fit : (p : Problem) (b : Branch) (e : Expansion) → IsExpansion p b e → (found : List FoundCell) → Each found (HasFit p) → Each (found ++ found_in e) (HasFit p)
turn_fit p b e is found n = each_append (HasFit p) found (found_in e) n (fit_found p b e is)

-- ---- the branches that are left
pub left_begin : (p : Problem) (given : List Branch) → Each given (IsLeft p given)
left_begin p given = each_in (IsLeft p given) given (λ b h. inl (has_contains given b h))

pub led : (p : Problem) (given : List Branch) (b : Branch) → IsLeft p given b → IsLed p (branches_of given) (branch_of b)
led p given b (inl c) = led_given p (branches_of given) (branch_of b) (has-map branch_of b given (contains_has given b c))
led p given b (inr h) = h.1

-- what a turn leaves to do begins where it says and follows the branch
opened_after : (p : Problem) (given : List Branch) (b : Branch) (kids : List Branch) → IsChildren p b.cell (branches_of kids) → IsLeft p given b → (k : Branch) → Has k kids → IsLeft p given k
opened_after p given b kids children l k h =
    let there = has-map branch_of k kids h in inr (
      each_has (IsTrueBranch p) (branches_of kids) (branch_of k) children.0 there,
      led_child p (branches_of given) (branch_of b) (branch_of k)
          (list_has (λ c. IsParent p b.cell c) (map (λ (x : shares.Branch). x.cell) (branches_of kids)) children.1 k.cell (has-map (λ (x : shares.Branch). x.cell) (branch_of k) (branches_of kids) there))
          (led p given b l),
    )

opened_left : (p : Problem) (given : List Branch) (b : Branch) (e : Expansion) → IsExpansion p b e → IsLeft p given b → Each (opened e) (IsLeft p given)
opened_left p given b (Inner children) h l = each_in (IsLeft p given) (children_of children) (opened_after p given b (children_of children) h.1 l)
opened_left p given b (Target found) h l = tt
opened_left p given b Endless h l = tt
opened_left p given b (Stranger branch) h l = tt

pub rest_left : (p : Problem) (given left rest : List Branch) (b : Branch) → left ≡ rest ++ b ∷ [] → Each left (IsLeft p given) → Each rest (IsLeft p given)
rest_left p given left rest b popped l = each_in (IsLeft p given) rest (λ x h. each_has (IsLeft p given) left x l (subst (λ k. Has x k) (sym popped) (has-left x rest (b ∷ []) h)))

pub last_left : (p : Problem) (given left rest : List Branch) (b : Branch) → left ≡ rest ++ b ∷ [] → Each left (IsLeft p given) → IsLeft p given b
last_left p given left rest b popped l = each_has (IsLeft p given) left b l (subst (λ k. Has b k) (sym popped) (has-right b rest (b ∷ []) (inl refl)))

pub turn_left : (p : Problem) (given left rest : List Branch) (b : Branch) (e : Expansion) → left ≡ rest ++ b ∷ [] → IsExpansion p b e → Each left (IsLeft p given) → Each (rest ++ opened e) (IsLeft p given)
turn_left p given left rest b e popped is l =
    each_append (IsLeft p given) rest (opened e) (rest_left p given left rest b popped l) (opened_left p given b e is (last_left p given left rest b popped l))

-- ---- steps and solves
pub count_begin : (start : ℕ) → IsCount start start 0
count_begin start = (0, omega arith, omega arith)

pub count_few : (start now solves : ℕ) → IsCount start now solves → solves ≤ top
count_few start now solves c = let e = c.2 in omega (arith, e)

pub turn_count : (p : Problem) (b : Branch) (start old new solves after : ℕ) → (IsOf p b.cell → new ≡ old + 1) → (¬ (IsOf p b.cell) → new ≡ old) → Solved p top (branch_of b) solves after
    → IsCount start old solves → IsCount start new after
turn_count p b start old new solves after step stay s c = elim (dec_of p b.cell) [
  | yes of ↦
      let e = step of in
      let f = s.0 of in
      let g = c.1 in
      let h = c.2 in (c.0 + 1, omega (arith, e, g), omega (arith, f, h))
  | no m ↦ (c.0, stay m ∙ c.1, s.1 m ∙ c.2)
]
