-- shares and sizes: they exist, there is one of each, and what an expansion does to them
use Rattle.std.proofs.Common.{◌≡◌, ◌≢◌, ◌⊎◌, ℕ, suc, ◌+◌, List, [], ◌∷◌, ◌++◌, length, map, arith, refl, sym, ap, ap₂, subst, ◌∙◌, inl, inr}
use Rattle.std.specs.Prelude.{IsPermutation, flat_map, sum_by}
use Rattle.std.proofs.lemmas.List.Sums.{sum_by-cons}
use Rattle.std.proofs.lemmas.List.{length-append}
use Rattle.std.proofs.lemmas.List.Sorted.{length_permutation}
use Rattle.std.proofs.lemmas.Int.{ints}
use Rattle.std.proofs.Math.IntN.{neg_ℤ}
use Rattle.wide_int.proofs.Order.{sign_cases}
use Rattle.cayley.proofs.Order.Times.{Same, same_self}
use Rattle.cayley.proofs.Order.Lined.{begins_same}
use Rattle.cayley.proofs.Searching.Listing.{Has, Sorted, listed, all_cells, has-cell, less_trans, has-left, has-right, has-map}
use Rattle.cayley.proofs.Life.Decisions.{lined_cell, dec_alive_early, dec_begins_at, alive_early, alive_after}
use Rattle.cayley.proofs.Searching.Parents.{less_irrefl, less_apart, one_parent}
use Rattle.cayley.proofs.Searching.Chains.{dec_chain, chain_of, chain_out, chain_trans, chain_linear, chain_apart}
use Rattle.cayley.proofs.Searching.Members.{has_contains, contains_has, sorted_from, sorted_to, has_either, has_flat, flat_has, map_has, Distinct, sorted_distinct, distinct_append, distinct_flat, same_members}
use Rattle.cayley.specs.Problems.{Problem, IsProblem}
use Rattle.cayley.specs.Times.{Time}
use Rattle.cayley.specs.Cells.{Cell, IsOf, IsListOf}
use Rattle.cayley.specs.Mixed.{IsAlive}
use Rattle.cayley.specs.Parents.{IsParent, InChain}
use Rattle.cayley.specs.Parents.InChain.{here, up}
use Rattle.cayley.specs.Lives.{Begin, BeginsAs}
use Rattle.cayley.specs.Shares.{Branch, IsTrueBranch, InShareOf, IsShareOf, GivesSharesOf, IsSize, GivesSizes, IsChildren, IsOwn}
use Rattle.cayley.specs.Lives.Begin.{at_start, at_time}
use Rattle.int_vectors.specs.Vectors.{Each, IsZero, add, scale}

-- ---- a branch is true or not
same_parts : (t u : Time) → t.entries ≡ u.entries → t.over ≡ u.over → Same t u
same_parts t u e f =
    subst (λ es. IsZero (add (scale t.over es) (scale (neg_ℤ u.over) t.entries))) e
    (subst (λ k. IsZero (add (scale t.over t.entries) (scale (neg_ℤ k) t.entries))) f (same_self t))

dec_begins_as : (p : Problem) → IsProblem p → (cell : Cell) (begin : Begin) → Dec (BeginsAs p cell begin)
dec_begins_as p well cell at_start = dec_alive_early p cell well
dec_begins_as p well cell (at_time entries over) =
    sign_cases over
    (λ n. no (λ h. let e = h.2 in let q = h.0.positive in absurd (omega (arith, ints))))
    (λ n. no (λ h. let e = h.2 in let q = h.0.positive in absurd (omega (arith, ints))))
    (λ q. elim (dec_begins_at p cell well (record { entries = entries; over = over; positive = q })) [
      | yes b ↦ yes (record { entries = entries; over = over; positive = q }, refl, refl, b)
      | no n ↦ no (λ h. n (begins_same (IsAlive p cell) (lined_cell p cell well) h.0 (record { entries = entries; over = over; positive = q }) (same_parts h.0 (record { entries = entries; over = over; positive = q }) h.1 h.2) h.3))
    ])

pub dec_true_branch : (p : Problem) → IsProblem p → (b : Branch) → Dec (IsTrueBranch p b)
dec_true_branch p well b = dec_begins_as p well b.cell b.begin

pub begins_of : (p : Problem) (cell : Cell) (begin : Begin) → BeginsAs p cell begin → IsOf p cell
begins_of p cell at_start h = (alive_early p cell h).1.0
begins_of p cell (at_time entries over) h = (alive_after p cell h.0 h.3.0).1.0

pub true_of : (p : Problem) (b : Branch) → IsTrueBranch p b → IsOf p b.cell
true_of p b h = begins_of p b.cell b.begin h

-- ---- a sorted list of all with a property
pub list_has : (P : Cell → Type 0) (cells : List Cell) → IsListOf P cells → (c : Cell) → Has c cells → P c
list_has P cells l c h = (l.1 c).0 (has_contains cells c h)

pub has_list : (P : Cell → Type 0) (cells : List Cell) → IsListOf P cells → (c : Cell) → P c → Has c cells
has_list P cells l c h = contains_has cells c ((l.1 c).1 h)

one_sorted : (xs ys : List Cell) → Sorted xs → Sorted ys → ((c : Cell) → Has c xs → Has c ys) → ((c : Cell) → Has c ys → Has c xs) → xs ≡ ys
one_sorted [] [] s t to back = refl
one_sorted [] (y ∷ ys) s t to back = absurd (back y (inl refl))
one_sorted (x ∷ xs) [] s t to back = absurd (to x (inl refl))
one_sorted (x ∷ xs) (y ∷ ys) s t to back =
    let e = first in
    ap₂ (λ (z : Cell) (l : List Cell). z ∷ l) e
    (one_sorted xs ys s.1 t.1
    (λ c h. elim (to c (inr h)) [ inl q ↦ absurd (less_apart x c (s.0 c h) (e ∙ sym q)) | inr k ↦ k ])
    (λ c h. elim (back c (inr h)) [ inl q ↦ absurd (less_apart y c (t.0 c h) (sym e ∙ sym q)) | inr k ↦ k ]))
  where
    first : x ≡ y
    first = elim (to x (inl refl)) [
      | inl e ↦ e
      | inr h ↦ elim (back y (inl refl)) [ inl e ↦ sym e | inr k ↦ absurd (less_irrefl x (less_trans x y x (s.0 y k) (t.0 x h))) ]
    ]

pub one_list : (P : Cell → Type 0) (xs ys : List Cell) → IsListOf P xs → IsListOf P ys → xs ≡ ys
one_list P xs ys l m = one_sorted xs ys (sorted_from xs l.0) (sorted_from ys m.0) (λ c h. has_list P ys m c (list_has P xs l c h)) (λ c h. has_list P xs l c (list_has P ys m c h))

-- ---- shares and sizes exist
dec_in_share : (p : Problem) → IsProblem p → (Wanted : Cell → Type 0) → ((c : Cell) → Dec (Wanted c)) → (b : Branch) (c : Cell) → Dec (InShareOf p Wanted b c)
dec_in_share p well Wanted dec b c = elim (dec_true_branch p well b) [
  | no n ↦ no (λ h. n h.0)
  | yes t ↦ elim (dec c) [
    | no n ↦ no (λ h. n h.1)
    | yes w ↦ elim (dec_chain p well b.cell c) [ no n ↦ no (λ h. n h.2) | yes i ↦ yes (t, w, i) ]
  ]
]

pub a_share : (p : Problem) → IsProblem p → (Wanted : Cell → Type 0) → ((c : Cell) → Dec (Wanted c)) → (b : Branch) → (cells : List Cell) × IsShareOf p Wanted b cells
a_share p well Wanted dec b =
    let l = listed (InShareOf p Wanted b) (dec_in_share p well Wanted dec b) (all_cells p.supports) in (
      l.list,
      (
        sorted_to l.list l.sorted,
        λ c. (
          (λ k. l.to c (contains_has l.list c k)),
          (λ h. has_contains l.list c (l.from c (has-cell p.supports c (chain_of p b.cell c (true_of p b h.0) h.2)) h)),
        ),
      ),
    )

pub a_size : (p : Problem) → IsProblem p → (b : Branch) → (n : ℕ) × IsSize p b n
a_size p well b = let s = a_share p well (λ c. Unit {0}) (λ c. yes tt) b in (length s.0, (s.0, s.1, refl))

pub one_size : (p : Problem) (b : Branch) (m n : ℕ) → IsSize p b m → IsSize p b n → m ≡ n
one_size p b m n h k = sym h.2 ∙ ap length (one_list _ h.0 k.0 h.1 k.1) ∙ k.2

-- ---- no share where the branch isn't true
pub no_share : (p : Problem) (Wanted : Cell → Type 0) (b : Branch) (cells : List Cell) → ¬ (IsTrueBranch p b) → IsShareOf p Wanted b cells → cells ≡ []
no_share p Wanted b [] n s = refl
no_share p Wanted b (c ∷ cells) n s = absurd (n (list_has (InShareOf p Wanted b) (c ∷ cells) s c (inl refl)).0)

-- ---- an expansion
module _ (p : Problem) (well : IsProblem p) (b : Branch) (is : IsTrueBranch p b) (kids : List Branch) (children : IsChildren p b.cell kids) where
  pub child_true : (k : Branch) → Has k kids → IsTrueBranch p k
  child_true k h = each_has kids children.0 h
    where
      each_has : (ks : List Branch) → Each ks (IsTrueBranch p) → Has k ks → IsTrueBranch p k
      each_has [] e h = absurd h
      each_has (y ∷ ks) e (inl q) = subst (IsTrueBranch p) (sym q) e.0
      each_has (y ∷ ks) e (inr h) = each_has ks e.1 h

  pub child_parent : (k : Branch) → Has k kids → IsParent p b.cell k.cell
  child_parent k h = list_has (λ c. IsParent p b.cell c) (map (λ (k : Branch). k.cell) kids) children.1 k.cell (has-map (λ (k : Branch). k.cell) k kids h)

  -- a chain ends at the branch's cell or goes through a child
  through : (c : Cell) → InChain p b.cell c → (b.cell ≡ c) ⊎ ((k : Branch) × Has k kids × InChain p k.cell c)
  through c here = inl refl
  through c (up {rho = rho} q h) = elim (through rho h) [
    | inl e ↦
        let m = map_has (λ (k : Branch). k.cell) c kids (has_list (λ c. IsParent p b.cell c) (map (λ (k : Branch). k.cell) kids) children.1 c (subst (λ x. IsParent p x c) (sym e) q)) in
        inr (m.0, m.1, subst (λ x. InChain p x c) m.2 here)
    | inr r ↦ inr (r.0, r.1, up q r.2)
  ]

  -- two children have no cell in common
  apart : (k l : Branch) → Has k kids → Has l kids → k.cell ≢ l.cell → (c : Cell) → InChain p k.cell c → ¬ (InChain p l.cell c)
  apart k l hk hl n c i j = elim (chain_linear p well k.cell l.cell c i j) [
    | inl h ↦ under k l hk hl n h
    | inr h ↦ under l k hl hk (λ e. n (sym e)) h
  ]
    where
      under : (k l : Branch) → Has k kids → Has l kids → k.cell ≢ l.cell → ¬ (InChain p k.cell l.cell)
      under k l hk hl n h = elim (chain_out p k.cell l.cell h) [
        | inl e ↦ n e
        | inr r ↦ chain_apart p well b.cell k.cell (child_parent k hk) (subst (λ x. InChain p k.cell x) (one_parent p r.0 b.cell l.cell well r.1 (child_parent l hl)) r.2)
      ]

  module _ (Wanted : Cell → Type 0) (share : Branch → List Cell) (gives : GivesSharesOf p Wanted share) (own : List Cell) (is_own : IsOwn Wanted b.cell own) where
    own_has : (c : Cell) → Has c own → (c ≡ b.cell) × Wanted b.cell
    own_has c h = elim is_own [
      | inl w ↦ elim (subst (λ l. Has c l) w.1 h) [ inl e ↦ (e, w.0) | inr k ↦ absurd k ]
      | inr n ↦ absurd (subst (λ l. Has c l) n.1 h)
    ]

    has_own : Wanted b.cell → Has b.cell own
    has_own w = elim is_own [ inl v ↦ subst (λ l. Has b.cell l) (sym v.1) (inl refl) | inr n ↦ absurd (n.0 w) ]

    own_distinct : Distinct own
    own_distinct = elim is_own [ inl w ↦ subst Distinct (sym w.1) ((λ h. h), tt) | inr n ↦ subst Distinct (sym n.1) tt ]

    share_has : (k : Branch) (c : Cell) → Has c (share k) → InShareOf p Wanted k c
    share_has k c h = list_has (InShareOf p Wanted k) (share k) (gives k) c h

    distinct_share : (k : Branch) → Distinct (share k)
    distinct_share k = sorted_distinct (share k) (sorted_from (share k) (gives k).0)

    -- the share of a branch: its own cell, if that is wanted, and the shares of its children
    pub share_step : IsPermutation (share b) (own ++ flat_map share kids)
    share_step =
        same_members (share b) (own ++ flat_map share kids) (distinct_share b)
        (distinct_append own (flat_map share kids) own_distinct
        (distinct_flat share (λ (k : Branch). k.cell) kids (sorted_distinct _ (sorted_from _ children.1.0)) (λ k h. distinct_share k)
        (λ k l hk hl n c i j. apart k l hk hl n c (share_has k c i).2 (share_has l c j).2))
        (λ c h k.
        let o = own_has c h in
        let r = flat_has share c kids k in
        chain_apart p well b.cell r.0.cell (child_parent r.0 r.1) (subst (λ x. InChain p r.0.cell x) o.0 (share_has r.0 c r.2).2)))
        (λ c h.
        let s = share_has b c h in
        elim (through c s.2) [
          | inl e ↦ has-left c own (flat_map share kids) (subst (λ x. Has x own) e (has_own (subst Wanted (sym e) s.1)))
          | inr r ↦ has-right c own (flat_map share kids) (has_flat share r.0 c kids r.1 (has_list (InShareOf p Wanted r.0) (share r.0) (gives r.0) c (child_true r.0 r.1, s.1, r.2)))
        ])
        (λ c h. has_list (InShareOf p Wanted b) (share b) (gives b) c (elim (has_either c own (flat_map share kids) h) [
          | inl k ↦ let o = own_has c k in (is, subst Wanted (sym o.0) o.1, subst (λ x. InChain p b.cell x) (sym o.0) here)
          | inr k ↦
              let r = flat_has share c kids k in
              let s = share_has r.0 c r.2 in
              (is, s.1, chain_trans p b.cell r.0.cell c (up (child_parent r.0 r.1) here) s.2)
        ]))

  module _ (size : Branch → ℕ) (gives : GivesSizes p size) where
    all_of : Branch → List Cell
    all_of k = (gives k).0

    length-flat : (ks : List Branch) → length (flat_map all_of ks) ≡ sum_by size ks
    unfolding all_of
    length-flat [] = refl
    length-flat (k ∷ ks) = length-append (all_of k) (flat_map all_of ks) ∙ ap₂ (λ m n. m + n) (gives k).2 (length-flat ks) ∙ sym (sum_by-cons size k ks)

    -- the size of a branch is one more than the sizes of its children together
    pub size_step : size b ≡ suc (sum_by size kids)
    unfolding all_of
    size_step =
        let q = share_step (λ c. Unit {0}) all_of (λ k. (gives k).1) (b.cell ∷ []) (inl (tt, refl)) in
        sym (gives b).2 ∙ sym (length_permutation (all_of b) ((b.cell ∷ []) ++ flat_map all_of kids) q) ∙ ap suc (length-flat kids)
