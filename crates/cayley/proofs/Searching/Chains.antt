-- chains: finite, decided, and linear
use Rattle.std.proofs.Common.{◌≡◌, ◌⊎◌, ℕ, zero, suc, ◌<◌, ◌≤◌, List, [], ◌∷◌, arith, refl, sym, subst, inl, inr}
use Rattle.cayley.proofs.Order.Lines.{later, before_trans}
use Rattle.cayley.proofs.Searching.Listing.{Has, all_cells, has-cell}
use Rattle.cayley.proofs.Order.Times.{same_before, never_before}
use Rattle.cayley.proofs.Order.Lined.{dec_positive}
use Rattle.cayley.proofs.Life.Decisions.{find_begins, begins_at_once}
use Rattle.cayley.proofs.Searching.Parents.{dec_same_cell, one_parent, find_parent, parent_earlier, parent_of}
use Rattle.cayley.specs.Problems.{Problem, IsProblem}
use Rattle.cayley.specs.Times.{Time, IsBefore}
use Rattle.cayley.specs.Cells.{Cell, IsOf}
use Rattle.cayley.specs.Lives.{BeginsAt}
use Rattle.cayley.specs.Parents.{IsParent, InChain}
use Rattle.cayley.specs.Parents.InChain.{here, up}

-- ---- how many of a list have a decided property
pub counted : {A : Type 0} (P : A → Type 0) → ((x : A) → Dec (P x)) → List A → ℕ
counted P dec [] = 0
counted P dec (x ∷ xs) = elim (dec x) [ yes h ↦ suc (counted P dec xs) | no n ↦ counted P dec xs ]

counted_le : {A : Type 0} (P Q : A → Type 0) (dp : (x : A) → Dec (P x)) (dq : (x : A) → Dec (Q x)) → ((x : A) → P x → Q x) → (xs : List A) → counted P dp xs ≤ counted Q dq xs
unfolding counted
counted_le P Q dp dq f [] = omega arith
counted_le P Q dp dq f (x ∷ xs) = step P Q dp dq f x xs (dp x) (dq x) (counted_le P Q dp dq f xs)
  where
    step : {A : Type 0} (P Q : A → Type 0) (dp : (x : A) → Dec (P x)) (dq : (x : A) → Dec (Q x)) → ((x : A) → P x → Q x) → (x : A) (xs : List A) (a : Dec (P x)) (b : Dec (Q x)) → counted P dp xs ≤ counted Q dq xs
        → elim a [ yes h ↦ suc (counted P dp xs) | no n ↦ counted P dp xs ] ≤ elim b [ yes h ↦ suc (counted Q dq xs) | no n ↦ counted Q dq xs ]
    step P Q dp dq f x xs (yes h) (yes k) l = omega (arith, l)
    step P Q dp dq f x xs (yes h) (no n) l = absurd (n (f x h))
    step P Q dp dq f x xs (no m) (yes k) l = omega (arith, l)
    step P Q dp dq f x xs (no m) (no n) l = l

counted_lt : {A : Type 0} (P Q : A → Type 0) (dp : (x : A) → Dec (P x)) (dq : (x : A) → Dec (Q x)) → ((x : A) → P x → Q x) → (y : A) → ¬ (P y) → Q y → (xs : List A) → Has y xs → counted P dp xs < counted Q dq xs
unfolding counted
counted_lt P Q dp dq f y np qy [] h = absurd h
counted_lt P Q dp dq f y np qy (x ∷ xs) h = elim h [
  | inl e ↦ here_is P Q dp dq x xs (λ p. np (subst P (sym e) p)) (subst Q e qy) (dp x) (dq x) (counted_le P Q dp dq f xs)
  | inr k ↦ there P Q dp dq f x xs (dp x) (dq x) (counted_lt P Q dp dq f y np qy xs k)
]
  where
    here_is : {A : Type 0} (P Q : A → Type 0) (dp : (x : A) → Dec (P x)) (dq : (x : A) → Dec (Q x)) (x : A) (xs : List A) → ¬ (P x) → Q x → (a : Dec (P x)) (b : Dec (Q x)) → counted P dp xs ≤ counted Q dq xs
        → elim a [ yes h ↦ suc (counted P dp xs) | no n ↦ counted P dp xs ] < elim b [ yes h ↦ suc (counted Q dq xs) | no n ↦ counted Q dq xs ]
    here_is P Q dp dq x xs m q (yes h) b l = absurd (m h)
    here_is P Q dp dq x xs m q (no i) (yes k) l = omega (arith, l)
    here_is P Q dp dq x xs m q (no i) (no k) l = absurd (k q)

    there : {A : Type 0} (P Q : A → Type 0) (dp : (x : A) → Dec (P x)) (dq : (x : A) → Dec (Q x)) → ((x : A) → P x → Q x) → (x : A) (xs : List A) (a : Dec (P x)) (b : Dec (Q x)) → counted P dp xs < counted Q dq xs
        → elim a [ yes h ↦ suc (counted P dp xs) | no n ↦ counted P dp xs ] < elim b [ yes h ↦ suc (counted Q dq xs) | no n ↦ counted Q dq xs ]
    there P Q dp dq f x xs (yes h) (yes k) l = omega (arith, l)
    there P Q dp dq f x xs (yes h) (no n) l = absurd (n (f x h))
    there P Q dp dq f x xs (no m) (yes k) l = omega (arith, l)
    there P Q dp dq f x xs (no m) (no n) l = l

-- ---- the measure that falls along parents: how many cells of the problem begin earlier
abbrev pub BeginsBefore : Problem → Time → Cell → Type 0
BeginsBefore p t cell = (s : Time) × BeginsAt p cell s × IsBefore s t

pub dec_begins_before : (p : Problem) → IsProblem p → (t : Time) (cell : Cell) → Dec (BeginsBefore p t cell)
dec_begins_before p well t cell = elim (find_begins p cell well) [
  | inr none ↦ no (λ h. none h.0 h.1)
  | inl b ↦ elim (dec_positive (later b.0 t)) [
    | yes q ↦ yes (b.0, b.1, q)
    | no n ↦ no (λ h. n (same_before h.0 b.0 t (begins_at_once p cell well h.0 b.0 h.1 b.1) h.2))
  ]
]

abbrev Found : Problem → Cell → Type 0
Found p cell = ((t : Time) × BeginsAt p cell t) ⊎ ((t : Time) → ¬ (BeginsAt p cell t))

rank_by : (p : Problem) → IsProblem p → (cell : Cell) → Found p cell → ℕ
rank_by p well cell (inl b) = suc (counted (BeginsBefore p b.0) (dec_begins_before p well b.0) (all_cells p.supports))
rank_by p well cell (inr none) = 0

pub rank : (p : Problem) → IsProblem p → Cell → ℕ
rank p well cell = rank_by p well cell (find_begins p cell well)

rank_falls : (p : Problem) (well : IsProblem p) (sigma tau : Cell) → IsParent p sigma tau → (f : Found p sigma) (g : Found p tau) → rank_by p well sigma f < rank_by p well tau g
unfolding rank_by
rank_falls p well sigma tau h f (inr none) = absurd (none h.0 h.1)
rank_falls p well sigma tau h (inr none) (inl t) = omega arith
rank_falls p well sigma tau h (inl s) (inl t) =
    let e = parent_earlier p sigma tau s.0 t.0 well h t.1 s.1 in
    let k = counted_lt (BeginsBefore p s.0) (BeginsBefore p t.0) (dec_begins_before p well s.0) (dec_begins_before p well t.0)
    (λ c b. (b.0, b.1, before_trans b.0 s.0 t.0 b.2 (inl e))) sigma
    (λ b. never_before s.0 (same_before b.0 s.0 s.0 (begins_at_once p sigma well b.0 s.0 b.1 s.1) b.2))
    (s.0, s.1, e) (all_cells p.supports) (has-cell p.supports sigma (parent_of p sigma tau h).0) in
    omega (arith, k)

pub rank_parent : (p : Problem) (well : IsProblem p) (sigma tau : Cell) → IsParent p sigma tau → rank p well sigma < rank p well tau
unfolding rank
rank_parent p well sigma tau h = rank_falls p well sigma tau h (find_begins p sigma well) (find_begins p tau well)

-- ---- chains
abbrev pub Chained : Problem → Cell → Cell → Type 0
Chained p sigma tau = (sigma ≡ tau) ⊎ ((rho : Cell) × IsParent p rho tau × InChain p sigma rho)

pub chain_out : (p : Problem) (sigma tau : Cell) → InChain p sigma tau → Chained p sigma tau
chain_out p sigma tau here = inl refl
chain_out p sigma tau (up {rho = rho} q c) = inr (rho, q, c)

pub chain_trans : (p : Problem) (a b c : Cell) → InChain p a b → InChain p b c → InChain p a c
chain_trans p a b c h here = h
chain_trans p a b c h (up {rho = rho} q k) = up q (chain_trans p a b rho h k)

pub chain_rank : (p : Problem) (well : IsProblem p) (sigma tau : Cell) → InChain p sigma tau → rank p well sigma ≤ rank p well tau
chain_rank p well sigma tau here = omega arith
chain_rank p well sigma tau (up {rho = rho} q c) = let i = chain_rank p well sigma rho c in let j = rank_parent p well rho tau q in omega (arith, i, j)

-- of two cells in one chain, one has the other in its chain
pub chain_linear : (p : Problem) → IsProblem p → (a b c : Cell) → InChain p a c → InChain p b c → InChain p a b ⊎ InChain p b a
chain_linear p well a b c here k = inr k
chain_linear p well a b c (up {rho = rho} q h) k = elim (chain_out p b c k) [
  | inl e ↦ inl (subst (λ x. InChain p a x) (sym e) (up q h))
  | inr r ↦ chain_linear p well a b rho h (subst (λ x. InChain p b x) (one_parent p r.0 rho c well r.1 q) r.2)
]

-- a cell isn't in the chain of its parent
pub chain_apart : (p : Problem) (well : IsProblem p) (sigma tau : Cell) → IsParent p sigma tau → ¬ (InChain p tau sigma)
chain_apart p well sigma tau h c = let i = chain_rank p well tau sigma c in let j = rank_parent p well sigma tau h in omega (arith, i, j)

chain_by : (p : Problem) (well : IsProblem p) (n : ℕ) (sigma tau : Cell) → rank p well tau < n → Dec (InChain p sigma tau)
chain_by p well zero sigma tau l = absurd (omega arith)
chain_by p well (suc n) sigma tau l = elim (dec_same_cell sigma tau) [
  | yes e ↦ yes (subst (λ x. InChain p sigma x) e here)
  | no apart ↦ elim (find_parent p tau well) [
    | inr none ↦ no (λ c. elim (chain_out p sigma tau c) [ inl e ↦ apart e | inr r ↦ none r.0 r.1 ])
    | inl r ↦ elim (chain_by p well n sigma r.0 (let j = rank_parent p well r.0 tau r.1 in omega (arith, j, l))) [
      | yes c ↦ yes (up r.1 c)
      | no m ↦ no (λ c. elim (chain_out p sigma tau c) [
        | inl e ↦ apart e
        | inr s ↦ m (subst (λ x. InChain p sigma x) (one_parent p s.0 r.0 tau well s.1 r.1) s.2)
      ])
    ]
  ]
]

pub dec_chain : (p : Problem) → IsProblem p → (sigma tau : Cell) → Dec (InChain p sigma tau)
dec_chain p well sigma tau = chain_by p well (suc (rank p well tau)) sigma tau (omega arith)

-- a cell with a cell of the problem in its chain is of the problem
pub chain_of : (p : Problem) (sigma tau : Cell) → IsOf p sigma → InChain p sigma tau → IsOf p tau
chain_of p sigma tau of here = of
chain_of p sigma tau of (up {rho = rho} q c) = (parent_of p rho tau q).1
