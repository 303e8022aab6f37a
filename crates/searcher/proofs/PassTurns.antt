-- a turn of the way to time 1: the last cell is followed
use Rattle.std.proofs.Common.{◌≡◌, ◌⊎◌, inl, inr, ℕ, ◌<◌, List, [], ◌∷◌, ◌++◌, map, arith, refl, sym, ap, subst, ◌∙◌, append-nil}
use Rattle.std.specs.Prelude.{IsPermutation, flat_map, sum_by}
use Rattle.std.proofs.lemmas.List.{map-append}
use Rattle.std.proofs.lemmas.List.Sums.{sum_by-cons, sum_by-append}
use Rattle.std.proofs.lemmas.Grind.{flat_map-append}
use Rattle.std.proofs.lemmas.List.Sorted.{IsPermutation-refl, IsPermutation-trans, IsPermutation-append_right, IsPermutation-append_comm}
use Rattle.int_vectors.specs.Vectors.{Each}
use Rattle.cayley.specs.Times.{Time}
use Rattle.cayley.specs.Problems.{Problem, IsProblem}
use Rattle.cayley.specs.Cells.{Cell, IsListOf}
use Rattle.cayley.specs.Mixed.{IsAlive}
use Rattle.cayley.specs.Lives.{Begin, BeginsAt, BeginsAs}
use Rattle.cayley.specs.Lives.Begin.{at_start, at_time}
use Rattle.cayley.specs.Parents.{IsParent, InChain}
use Rattle.cayley.specs.Parents.InChain.{here, up}
use Rattle.cayley.specs.Shares as shares
use Rattle.cayley.specs.Shares.{IsTrueBranch, InShareOf, GivesSharesOf, IsChildren}
use Rattle.int_vectors.proofs.Each.{each_append}
use Rattle.cayley.proofs.Life.Decisions.{dec_alive, find_begins}
use Rattle.cayley.proofs.Life.LifeLaws.{life_law}
use Rattle.cayley.proofs.Searching.Chains.{chain_trans}
use Rattle.cayley.proofs.Searching.Listing.{Has, has-map}
use Rattle.cayley.proofs.Searching.Members.{has_contains, contains_has}
use Rattle.cayley.proofs.Searching.Shares.{list_has, one_list}
use Rattle.cayley.proofs.Searching.Steps.{Keeps, weight, keeps_begin, keeps_end, keeps_step, keeps_drop, inner_keeps, inner_falls, drop_falls, shares_exist}
use Rattle.searcher.specs.declared.branches.Branch.{Branch}
use Rattle.searcher.specs.declared.expansions.Children.{Children}
use Rattle.searcher.specs.declared.expansions.Children.TheVariants.{None, One, Two}
use Rattle.searcher.specs.declared.expansions.HaltCause.{HaltCause}
use Rattle.searcher.specs.declared.expansions.HaltCause.TheVariants.{Tie, Overflow, OutOfMemory}
use Rattle.searcher.specs.declared.passing.Passage.{Passage}
use Rattle.searcher.specs.declared.passing.Passage.TheVariants.{Reached, Ended, Followed}
use Rattle.searcher.specs.Branches.{branch_of, branches_of, children_of}
use Rattle.searcher.specs.Passes.{time_one, IsOnItsWay, IsReachedFrom, IsLedBy, IsPassage, IsHaltOnTheWay, AreReachedFrom, followed_by, left_by, reached_by}
use Rattle.searcher.proofs.Sizes.{dec_problem, size_in, size_in_gives}

-- ---- the branch of a cell, with the time at which it begins
found_begin : (p : Problem) (cell : Cell) → ((t : Time) × BeginsAt p cell t) ⊎ ((t : Time) → ¬ (BeginsAt p cell t)) → Begin
found_begin p cell (inl h) = at_time h.0.entries h.0.over
found_begin p cell (inr n) = at_start

begin_in : (p : Problem) (cell : Cell) → Dec (IsProblem p) → Begin
begin_in p cell (yes well) = found_begin p cell (find_begins p cell well)
begin_in p cell (no n) = at_start

pub branch_in : Problem → Cell → shares.Branch
branch_in p cell = record { cell = cell; begin = begin_in p cell (dec_problem p) }

-- alive at time 1
abbrev pub AtOne : Problem → Cell → Type 0
AtOne p tau = IsAlive p tau time_one

module _ (p : Problem) (well : IsProblem p) where
  found_true : (cell : Cell) (t : Time) → IsAlive p cell t → (f : ((t : Time) × BeginsAt p cell t) ⊎ ((t : Time) → ¬ (BeginsAt p cell t))) → BeginsAs p cell (found_begin p cell f)
  unfolding found_begin
  found_true cell t a (inl h) = (h.0, refl, refl, h.1)
  found_true cell t a (inr n) = elim (life_law p cell t well a).early [ inl e ↦ e | inr r ↦ absurd (n r.0 r.2) ]

  begin_true : (cell : Cell) (t : Time) → IsAlive p cell t → (d : Dec (IsProblem p)) → BeginsAs p cell (begin_in p cell d)
  unfolding begin_in
  begin_true cell t a (yes w) = found_true cell t a (find_begins p cell w)
  begin_true cell t a (no n) = absurd (n well)

  -- a cell that is alive at some time begins there
  pub true_in : (cell : Cell) (t : Time) → IsAlive p cell t → IsTrueBranch p (branch_in p cell)
  unfolding branch_in
  true_in cell t a = begin_true cell t a (dec_problem p)

  way_true : (cell : Cell) → IsOnItsWay p cell → IsTrueBranch p (branch_in p cell)
  way_true cell w = true_in cell w.0 w.3

pub cell_in : (p : Problem) (cell : Cell) → (branch_in p cell).cell ≡ cell
unfolding branch_in
cell_in p cell = refl

pub cells_in : (p : Problem) (cells : List Cell) → map (λ (b : shares.Branch). b.cell) (map (branch_in p) cells) ≡ cells
unfolding branch_in
cells_in p [] = refl
cells_in p (x ∷ cells) = ap (λ l. x ∷ l) (cells_in p cells)

-- the cells of branches
cells_from : List shares.Branch → List Cell
cells_from bs = map (λ (b : shares.Branch). b.cell) bs

-- ---- two branches that change places
swapped : (share : shares.Branch → List Cell) (given : List shares.Branch) (found : List Cell) (rest : List shares.Branch) (b c : shares.Branch) → Keeps share given found (rest ++ b ∷ c ∷ []) → Keeps share given found (rest ++ c ∷ b ∷ [])
swapped share given found rest b c k =
    let r = flat_map share rest in
    let two : IsPermutation (share b ++ (share c ++ [])) (share c ++ (share b ++ [])) =
    subst (λ l. IsPermutation (share b ++ l) (share c ++ (share b ++ []))) (sym (append-nil (share c)))
    (subst (λ l. IsPermutation (share b ++ share c) (share c ++ l)) (sym (append-nil (share b))) (IsPermutation-append_comm (share b) (share c))) in
    let whole : IsPermutation (flat_map share (rest ++ b ∷ c ∷ [])) (flat_map share (rest ++ c ∷ b ∷ [])) =
    subst (λ l. IsPermutation l (flat_map share (rest ++ c ∷ b ∷ []))) (sym (flat_map-append share rest (b ∷ c ∷ [])))
    (subst (λ l. IsPermutation (r ++ (share b ++ (share c ++ []))) l) (sym (flat_map-append share rest (c ∷ b ∷ []))) (IsPermutation-append_right r _ _ two)) in
    IsPermutation-trans (flat_map share given) (found ++ flat_map share (rest ++ b ∷ c ∷ [])) (found ++ flat_map share (rest ++ c ∷ b ∷ [])) k
    (IsPermutation-append_right found _ _ whole)

sum_swapped : (f : shares.Branch → ℕ) (rest : List shares.Branch) (b c : shares.Branch) → sum_by f (rest ++ b ∷ c ∷ []) ≡ sum_by f (rest ++ c ∷ b ∷ [])
sum_swapped f rest b c =
    let i = sum_by-append f rest (b ∷ c ∷ []) in
    let j = sum_by-append f rest (c ∷ b ∷ []) in
    let k = sum_by-cons f b (c ∷ []) in
    let l = sum_by-cons f c [] in
    let m = sum_by-cons f c (b ∷ []) in
    let n = sum_by-cons f b [] in
    omega (arith, i, j, k, l, m, n)

-- ---- the children in cell order
module _ (p : Problem) (share : shares.Branch → List Cell) (given : List shares.Branch) (found : List Cell) (rest : List shares.Branch) where
  keeps_followed : (children : Children) → Keeps share given found (rest ++ map (branch_in p) (cells_from (branches_of (children_of children)))) → Keeps share given found (rest ++ map (branch_in p) (followed_by children))
  unfolding cells_from
  keeps_followed None k = k
  keeps_followed (One first) k = k
  keeps_followed (Two first second) k = swapped share given found rest (branch_in p first.cell) (branch_in p second.cell) k

sum_followed : (p : Problem) (f : shares.Branch → ℕ) (rest : List shares.Branch) (children : Children)
    → sum_by f (rest ++ map (branch_in p) (cells_from (branches_of (children_of children)))) ≡ sum_by f (rest ++ map (branch_in p) (followed_by children))
unfolding cells_from
sum_followed p f rest None = refl
sum_followed p f rest (One first) = refl
sum_followed p f rest (Two first second) = sum_swapped f rest (branch_in p first.cell) (branch_in p second.cell)

-- what holds of the followed cells holds of them in order
each_ordered : (p : Problem) (P : shares.Branch → Type 0) (Q : Cell → Type 0) → ((c : Cell) → Q c → P (branch_in p c)) → (children : Children) → Each (followed_by children) Q
    → Each (map (branch_in p) (cells_from (branches_of (children_of children)))) P
unfolding cells_from
each_ordered p P Q f None e = tt
each_ordered p P Q f (One first) e = (f first.cell e.0, tt)
each_ordered p P Q f (Two first second) e = (f first.cell e.1.0, (f second.cell e.0, tt))

-- ---- the turn
module _ (p : Problem) (well : IsProblem p) (next : Cell) (left rest : List Cell) (popped : left ≡ rest ++ next ∷ []) (way : IsOnItsWay p next) where
  abbrev b : shares.Branch
  b = branch_in p next

  last_branch : map (branch_in p) left ≡ map (branch_in p) rest ++ branch_in p next ∷ []
  last_branch = ap (map (branch_in p)) popped ∙ map-append (branch_in p) rest (next ∷ [])

  no_more : map (branch_in p) (rest ++ []) ≡ map (branch_in p) rest
  no_more = ap (map (branch_in p)) (append-nil rest)

  kids_of : (children : Children) → IsPassage p next (Followed children) → IsChildren p (branch_in p next).cell (map (branch_in p) (cells_from (branches_of (children_of children))))
  unfolding cells_from
  kids_of children is =
      subst (λ c. IsChildren p c (map (branch_in p) (cells_from (branches_of (children_of children))))) (sym (cell_in p next)) (
        each_ordered p (IsTrueBranch p) (IsOnItsWay p) (way_true p well) children is.2,
        subst (IsListOf (λ c. IsParent p next c)) (sym (cells_in p (cells_from (branches_of (children_of children))))) is.1.1,
      )

  module _ (share : shares.Branch → List Cell) (gives : GivesSharesOf p (AtOne p) share) where
    -- the share of a cell that is there alone, and of one behind which nothing is
    one_share : IsAlive p next time_one → ((tau : Cell) → IsReachedFrom p next tau → tau ≡ next) → share (branch_in p next) ≡ next ∷ []
    one_share a only =
        one_list (InShareOf p (AtOne p) (branch_in p next)) (share (branch_in p next)) (next ∷ []) (gives (branch_in p next)) (
          tt,
          λ tau. (
            (λ h. elim (contains_has (next ∷ []) tau h) [
              | inl e ↦ (way_true p well next way, subst (AtOne p) (sym e) a, subst (λ c. InChain p c tau) (sym (cell_in p next)) (subst (λ c. InChain p next c) (sym e) here))
              | inr k ↦ absurd k
            ]),
            (λ h. has_contains (next ∷ []) tau (inl (only tau (h.1, subst (λ c. InChain p c tau) (cell_in p next) h.2)))),
          ),
        )

    empty_share : ((tau : Cell) → ¬ (IsReachedFrom p next tau)) → share (branch_in p next) ≡ []
    empty_share n = by_list (share (branch_in p next)) (gives (branch_in p next))
      where
        by_list : (cells : List Cell) → IsListOf (InShareOf p (AtOne p) (branch_in p next)) cells → cells ≡ []
        by_list [] l = refl
        by_list (c ∷ cells) l =
            let h = list_has (InShareOf p (AtOne p) (branch_in p next)) (c ∷ cells) l c (inl refl) in
            absurd (n c (h.1, subst (λ x. InChain p x c) (cell_in p next) h.2))

    pub pass_keeps : (given : List shares.Branch) (found : List Cell) (passage : Passage) → IsPassage p next passage → Keeps share given found (map (branch_in p) left)
        → Keeps share given (found ++ reached_by next passage) (map (branch_in p) (rest ++ left_by passage))
    pass_keeps given found Reached is k =
        subst (λ l. Keeps share given (found ++ next ∷ []) l) (append-nil (map (branch_in p) rest) ∙ sym no_more)
        (keeps_step share given found (map (branch_in p) rest) (branch_in p next) (next ∷ []) []
        (subst (λ l. IsPermutation l (next ∷ [])) (sym (one_share is.0 is.1)) (IsPermutation-refl (next ∷ [])))
        (subst (λ l. Keeps share given found l) last_branch k))
    pass_keeps given found Ended is k =
        subst (λ l. Keeps share given l (map (branch_in p) (rest ++ []))) (sym (append-nil found))
        (subst (λ l. Keeps share given found l) (sym no_more)
        (keeps_drop share given found (map (branch_in p) rest) (branch_in p next) (empty_share is) (subst (λ l. Keeps share given found l) last_branch k)))
    pass_keeps given found (Followed children) is k =
        subst (λ l. Keeps share given l (map (branch_in p) (rest ++ followed_by children))) (sym (append-nil found))
        (subst (λ l. Keeps share given found l) (sym (map-append (branch_in p) rest (followed_by children)))
        (keeps_followed p share given found (map (branch_in p) rest) children
        (inner_keeps p well (AtOne p) (branch_in p next) (map (branch_in p) left) (map (branch_in p) rest) last_branch (way_true p well next way)
        (λ a. is.0 (subst (AtOne p) (cell_in p next) a)) (map (branch_in p) (cells_from (branches_of (children_of children)))) (kids_of children is) given found share gives k)))

  pub pass_falls : (passage : Passage) → IsPassage p next passage → sum_by (weight (size_in p)) (map (branch_in p) (rest ++ left_by passage)) < sum_by (weight (size_in p)) (map (branch_in p) left)
  pass_falls Reached is = subst (λ l. sum_by (weight (size_in p)) l < sum_by (weight (size_in p)) (map (branch_in p) left)) (sym no_more) (drop_falls p well (size_in p) (size_in_gives p well) (branch_in p next) (map (branch_in p) left) (map (branch_in p) rest) last_branch)
  pass_falls Ended is = subst (λ l. sum_by (weight (size_in p)) l < sum_by (weight (size_in p)) (map (branch_in p) left)) (sym no_more) (drop_falls p well (size_in p) (size_in_gives p well) (branch_in p next) (map (branch_in p) left) (map (branch_in p) rest) last_branch)
  pass_falls (Followed children) is =
      subst (λ n. n < sum_by (weight (size_in p)) (map (branch_in p) left))
      (sum_followed p (weight (size_in p)) (map (branch_in p) rest) children ∙ ap (sum_by (weight (size_in p))) (sym (map-append (branch_in p) rest (followed_by children))))
      (inner_falls p well (size_in p) (size_in_gives p well) (branch_in p next) (map (branch_in p) left) (map (branch_in p) rest) last_branch (way_true p well next way) (map (branch_in p) (cells_from (branches_of (children_of children)))) (kids_of children is))

  -- ---- what is left is on its way, and led by the given cells
  pub pass_ways : (passage : Passage) → IsPassage p next passage → Each left (IsOnItsWay p) → Each (rest ++ left_by passage) (IsOnItsWay p)
  pass_ways passage is w = each_append (IsOnItsWay p) rest (left_by passage) (others w) (new passage is)
    where
      new : (passage : Passage) → IsPassage p next passage → Each (left_by passage) (IsOnItsWay p)
      new Reached is = tt
      new Ended is = tt
      new (Followed children) is = is.2

      others : Each left (IsOnItsWay p) → Each rest (IsOnItsWay p)
      others w = front rest (subst (λ l. Each l (IsOnItsWay p)) popped w)
        where
          front : (xs : List Cell) → Each (xs ++ next ∷ []) (IsOnItsWay p) → Each xs (IsOnItsWay p)
          front [] e = tt
          front (x ∷ xs) e = (e.0, front xs e.1)

  module _ (given : List Cell) where
    child_led : (children : Children) → IsPassage p next (Followed children) → IsLedBy p given next → (k : Branch) → Has k (children_of children) → IsLedBy p given k.cell
    child_led children is l k h =
        let q = list_has (λ c. IsParent p next c) _ is.1.1 k.cell (has-map (λ (x : shares.Branch). x.cell) (branch_of k) (branches_of (children_of children)) (has-map branch_of k (children_of children) h)) in
        (l.0, l.1, chain_trans p l.0 next k.cell l.2 (up q here))

    new_led : (passage : Passage) → IsPassage p next passage → IsLedBy p given next → Each (left_by passage) (IsLedBy p given)
    new_led Reached is l = tt
    new_led Ended is l = tt
    new_led (Followed None) is l = tt
    new_led (Followed (One first)) is l = (child_led (One first) is l first (inl refl), tt)
    new_led (Followed (Two first second)) is l = (child_led (Two first second) is l second (inr (inl refl)), (child_led (Two first second) is l first (inl refl), tt))

    pub pass_led : (passage : Passage) → IsPassage p next passage → Each left (IsLedBy p given) → Each (rest ++ left_by passage) (IsLedBy p given)
    pass_led passage is w =
        let whole = subst (λ l. Each l (IsLedBy p given)) popped w in
        each_append (IsLedBy p given) rest (left_by passage) (front rest whole) (new_led passage is (last rest whole))
      where
        front : (xs : List Cell) → Each (xs ++ next ∷ []) (IsLedBy p given) → Each xs (IsLedBy p given)
        front [] e = tt
        front (x ∷ xs) e = (e.0, front xs e.1)

        last : (xs : List Cell) → Each (xs ++ next ∷ []) (IsLedBy p given) → IsLedBy p given next
        last [] e = e.0
        last (x ∷ xs) e = last xs e.1

-- the last of a list with a property for each
pub last_has : (P : Cell → Type 0) (next : Cell) (left rest : List Cell) → left ≡ rest ++ next ∷ [] → Each left P → P next
last_has P next left rest popped w = last rest (subst (λ l. Each l P) popped w)
  where
    last : (xs : List Cell) → Each (xs ++ next ∷ []) P → P next
    last [] e = e.0
    last (x ∷ xs) e = last xs e.1

-- ---- a halt at a cell that is led
led_further : (p : Problem) (given : List Cell) (next z : Cell) → IsLedBy p given next → IsLedBy p (next ∷ []) z → IsLedBy p given z
led_further p given next z l m =
    let e : m.0 ≡ next = elim (contains_has (next ∷ []) m.0 m.1) [ inl e ↦ e | inr k ↦ absurd k ] in
    (l.0, l.1, chain_trans p l.0 next z l.2 (subst (λ c. InChain p c z) e m.2))

pub halt_led : (p : Problem) (given : List Cell) (next : Cell) (cause : HaltCause) → IsLedBy p given next → IsHaltOnTheWay p (next ∷ []) cause → IsHaltOnTheWay p given cause
halt_led p given next (Tie proof) l h = (h.0, led_further p given next proof.cell l h.1)
halt_led p given next (Overflow cell) l h = (h.0, h.1, led_further p given next cell l h.2)
halt_led p given next OutOfMemory l h = tt

pub led_self : (p : Problem) (given : List Cell) (cell : Cell) → Has cell given → IsLedBy p given cell
led_self p given cell h = (cell, has_contains given cell h, here)

-- ---- the beginning and the end
pub keeps_first : (p : Problem) (cell : Cell) (share : shares.Branch → List Cell) → Keeps share (branch_in p cell ∷ []) [] (map (branch_in p) (cell ∷ []))
keeps_first p cell share = keeps_begin share (branch_in p cell ∷ [])

module _ (p : Problem) (well : IsProblem p) (cell : Cell) (way : IsOnItsWay p cell) where
  as_share : (all : List Cell) → IsListOf (IsReachedFrom p cell) all → IsListOf (InShareOf p (AtOne p) (branch_in p cell)) all
  as_share all l = (
    l.0,
    λ tau. (
      (λ h. let r = (l.1 tau).0 h in (way_true p well cell way, r.0, subst (λ c. InChain p c tau) (sym (cell_in p cell)) r.1)),
      (λ h. (l.1 tau).1 (h.1, subst (λ c. InChain p c tau) (cell_in p cell) h.2)),
    ),
  )

  pub pass_ends : (left more : List Cell) → left ≡ [] → ((share : shares.Branch → List Cell) → GivesSharesOf p (AtOne p) share → Keeps share (branch_in p cell ∷ []) more (map (branch_in p) left)) → AreReachedFrom p cell more
  pass_ends left more none keeps all l =
      let s = shares_exist p well (AtOne p) (λ c. dec_alive p c well time_one) in
      let share = s.0 in
      let one : share (branch_in p cell) ≡ all = one_list (InShareOf p (AtOne p) (branch_in p cell)) (share (branch_in p cell)) all (s.1 (branch_in p cell)) (as_share all l) in
      let k = keeps_end share (branch_in p cell ∷ []) more (subst (λ l. Keeps share (branch_in p cell ∷ []) more l) (ap (map (branch_in p)) none) (keeps share s.1)) in
      subst (λ l. IsPermutation l more) (append-nil (share (branch_in p cell)) ∙ one) k
