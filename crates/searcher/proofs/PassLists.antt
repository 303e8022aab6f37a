-- the cells that are there at time 1, of all given cells
use Rattle.std.proofs.Common.{◌≡◌, ◌⊎◌, inl, inr, ℕ, zero, suc, ◌+◌, ◌<◌, ◌≤◌, List, [], ◌∷◌, ◌++◌, length, map, drop, arith, refl, sym, ap, subst, ◌∙◌, append-nil, append_assoc}
use Rattle.std.specs.Prelude.{slice_index_or, IsPermutation, flat_map}
use Rattle.std.proofs.lemmas.List.Sorted.{IsPermutation-refl, IsPermutation-trans, IsPermutation-append_left, IsPermutation-append_right}
use Rattle.int_vectors.specs.Vectors.{Each}
use Rattle.cayley.specs.Times.{Time, IsBefore, time_zero}
use Rattle.cayley.specs.Problems.{Problem, IsProblem}
use Rattle.cayley.specs.Cells.{Cell, IsListOf, IsSorted}
use Rattle.cayley.specs.Mixed.{IsAlive}
use Rattle.cayley.specs.Lives.{BeginsAt, EndsAt}
use Rattle.cayley.specs.Parents.{InChain}
use Rattle.cayley.specs.Parents.InChain.{here, up}
use Rattle.cayley.proofs.Order.Lines.{before_trans}
use Rattle.cayley.proofs.Order.Times.{never_before}
use Rattle.cayley.proofs.Life.Decisions.{dec_alive}
use Rattle.cayley.proofs.Life.LifeLaws.{parent_law}
use Rattle.cayley.proofs.Searching.Chains.{dec_chain, chain_linear}
use Rattle.cayley.proofs.Searching.Counting as counting
use Rattle.cayley.proofs.Searching.Counting.{sorted_same}
use Rattle.cayley.proofs.Searching.Listing.{Has, listed, all_cells, has-cell}
use Rattle.cayley.proofs.Searching.Members.{has_contains, contains_has, sorted_from, sorted_to, has_flat, flat_has, Distinct, sorted_distinct, distinct_flat, same_members}
use Rattle.cayley.proofs.Searching.Shares.{list_has, has_list}
use Rattle.searcher.specs.Passes.{time_one, IsOnItsWay, IsReachedFrom, IsReached}
use Rattle.searcher.proofs.OnTheWay.{since, ends_after}

-- what is read at a place is there
pub there : (xs : List Cell) (k : ℕ) (c : Cell) → c ≡ slice_index_or xs k c → k < length xs → Has c xs
there [] k c e l = absurd (omega (arith, l))
there (x ∷ xs) zero c e l = inl e
there (x ∷ xs) (suc k) c e l = inr (there xs k c e (omega (arith, l)))

-- ---- of two cells that are alive at 0, neither is in the other's chain
module _ (p : Problem) (well : IsProblem p) where
  parted : (sigma tau : Cell) → InChain p sigma tau → (tau ≡ sigma) ⊎ ((u : Time) × EndsAt p sigma u × ((b : Time) × BeginsAt p tau b × ¬ (IsBefore b u)))
  parted sigma tau here = inl refl
  parted sigma tau (up {rho = rho} q h) =
      let l = parent_law p rho tau q.0 well q.1 q in
      elim (parted sigma rho h) [
        | inl r ↦ inr (q.0, subst (λ x. EndsAt p x q.0) r l.0, (q.0, q.1, never_before q.0))
        | inr k ↦ inr (k.0, k.1, (q.0, q.1, λ b. k.2.2 (before_trans k.2.0 q.0 k.0 (l.1 k.2.0 k.2.1) (inl b))))
      ]

  apart_at_zero : (sigma tau : Cell) → IsAlive p sigma time_zero → IsAlive p tau time_zero → InChain p sigma tau → tau ≡ sigma
  apart_at_zero sigma tau a c h = elim (parted sigma tau h) [
    | inl e ↦ e
    | inr k ↦ absurd (k.2.2 (before_trans k.2.0 time_zero k.0 (since p well tau k.2.0 time_zero k.2.1 c) (inl (ends_after p well sigma k.0 time_zero k.1 a))))
  ]

  -- ---- the lists of what is reached
  of_dec : (P : Cell → Type 0) → ((c : Cell) → Dec (P c)) → ((c : Cell) → P c → IsAlive p c time_one) → (cells : List Cell) × IsListOf P cells
  of_dec P dec alive =
      let l = listed P dec (all_cells p.supports) in (
        l.list,
        (
          sorted_to l.list l.sorted,
          λ c. ((λ k. l.to c (contains_has l.list c k)), (λ h. has_contains l.list c (l.from c (has-cell p.supports c (alive c h).0) h))),
        ),
      )

  dec_from : (cell tau : Cell) → Dec (IsReachedFrom p cell tau)
  dec_from cell tau = elim (dec_alive p tau well time_one) [
    | no n ↦ no (λ h. n h.0)
    | yes a ↦ elim (dec_chain p well cell tau) [ no n ↦ no (λ h. n h.1) | yes c ↦ yes (a, c) ]
  ]

  all_from : (cell : Cell) → (cells : List Cell) × IsListOf (IsReachedFrom p cell) cells
  all_from cell = of_dec (IsReachedFrom p cell) (dec_from cell) (λ c h. h.0)

  some_led : (given : List Cell) (tau : Cell) → Dec ((a : Cell) × Has a given × InChain p a tau)
  some_led [] tau = no (λ h. h.1)
  some_led (x ∷ xs) tau = elim (dec_chain p well x tau) [
    | yes c ↦ yes (x, inl refl, c)
    | no n ↦ elim (some_led xs tau) [
      | yes h ↦ yes (h.0, inr h.1, h.2)
      | no m ↦ no (λ h. elim h.1 [ inl e ↦ n (subst (λ z. InChain p z tau) e h.2) | inr k ↦ m (h.0, k, h.2) ])
    ]
  ]

  dec_reached : (given : List Cell) (tau : Cell) → Dec (IsReached p given tau)
  dec_reached given tau = elim (dec_alive p tau well time_one) [
    | no n ↦ no (λ h. n h.0)
    | yes a ↦ elim (some_led given tau) [
      | no n ↦ no (λ h. n (h.1.0, contains_has given h.1.0 h.1.1, h.1.2))
      | yes c ↦ yes (a, (c.0, has_contains given c.0 c.1, c.2))
    ]
  ]

  pub from_all : Cell → List Cell
  from_all cell = (all_from cell).0

  pub from_all_is : (cell : Cell) → IsListOf (IsReachedFrom p cell) (from_all cell)
  unfolding from_all
  from_all_is cell = (all_from cell).1

  same_keys : (cells : List Cell) → map (λ (c : Cell). c) cells ≡ cells
  same_keys [] = refl
  same_keys (x ∷ cells) = ap (λ l. x ∷ l) (same_keys cells)

  module _ (given : List Cell) (order : IsSorted given) (alive : Each given (λ c. IsAlive p c time_zero)) where
    alive_at : (c : Cell) → Has c given → IsAlive p c time_zero
    alive_at c h = among given alive h
      where
        among : (xs : List Cell) → Each xs (λ c. IsAlive p c time_zero) → Has c xs → IsAlive p c time_zero
        among [] e h = absurd h
        among (x ∷ xs) e (inl q) = subst (λ z. IsAlive p z time_zero) (sym q) e.0
        among (x ∷ xs) e (inr h) = among xs e.1 h

    -- all that are reached, from one after the other, are reached once
    each_once : Distinct (flat_map from_all given)
    each_once =
        distinct_flat from_all (λ (c : Cell). c) given (subst Distinct (sym (same_keys given)) (sorted_distinct given (sorted_from given order)))
        (λ x h. sorted_distinct (from_all x) (sorted_from (from_all x) (from_all_is x).0))
        (λ x y hx hy n c i j.
        let ci = list_has (IsReachedFrom p x) (from_all x) (from_all_is x) c i in
        let cj = list_has (IsReachedFrom p y) (from_all y) (from_all_is y) c j in
        elim (chain_linear p well x y c ci.1 cj.1) [
          | inl h ↦ n (sym (apart_at_zero x y (alive_at x hx) (alive_at y hy) h))
          | inr h ↦ n (apart_at_zero y x (alive_at y hy) (alive_at x hx) h)
        ])

    pub whole : (found sorted : List Cell) → IsPermutation (flat_map from_all given) found → IsPermutation found sorted → counting.NeverFalls sorted → IsListOf (IsReached p given) sorted
    whole found sorted perm moved falls =
        let s = of_dec (IsReached p given) (dec_reached given) (λ c h. h.0) in
        let same : IsPermutation s.0 (flat_map from_all given) =
        same_members s.0 (flat_map from_all given) (sorted_distinct s.0 (sorted_from s.0 s.1.0)) each_once
        (λ c h.
        let r = list_has (IsReached p given) s.0 s.1 c h in
        has_flat from_all r.1.0 c given (contains_has given r.1.0 r.1.1) (has_list (IsReachedFrom p r.1.0) (from_all r.1.0) (from_all_is r.1.0) c (r.0, r.1.2)))
        (λ c h.
        let r = flat_has from_all c given h in
        let k = list_has (IsReachedFrom p r.0) (from_all r.0) (from_all_is r.0) c r.2 in
        has_list (IsReached p given) s.0 s.1 c (k.0, (r.0, has_contains given r.0 r.1, k.1))) in
        subst (IsListOf (IsReached p given))
        (sorted_same s.0 sorted (sorted_from s.0 s.1.0) falls
        (IsPermutation-trans s.0 (flat_map from_all given) sorted same (IsPermutation-trans (flat_map from_all given) found sorted perm moved)))
        s.1

    -- ---- one given cell after the other
    pub ready : (k : ℕ) (c : Cell) → c ≡ slice_index_or given k c → k < length given → IsOnItsWay p c
    ready k c e l = (time_zero, never_before time_zero, zero_before_one, alive_at c (there given k c e l))
      where
        zero_before_one : IsBefore time_zero time_one
        zero_before_one = inl (record { lt = tt })

-- ---- the loop over the given cells
next_dropped : (xs : List Cell) (k : ℕ) (c : Cell) → c ≡ slice_index_or xs k c → k < length xs → drop k xs ≡ c ∷ drop (k + 1) xs
next_dropped [] k c e l = absurd (omega (arith, l))
next_dropped (x ∷ xs) zero c e l = ap (λ z. z ∷ xs) (sym e)
next_dropped (x ∷ xs) (suc k) c e l =
    let q : suc (k + 1) ≡ suc k + 1 = omega arith in
    subst (λ m. drop k xs ≡ c ∷ drop m (x ∷ xs)) q (next_dropped xs k c e (omega (arith, l)))

pub all_begin : (all : Cell → List Cell) (given : List Cell) → IsPermutation (flat_map all given) ([] ++ flat_map all (drop 0 given))
all_begin all [] = IsPermutation-refl []
all_begin all (x ∷ given) = IsPermutation-refl (flat_map all (x ∷ given))

pub all_step : (all : Cell → List Cell) (given found more new : List Cell) (k : ℕ) (c : Cell) → c ≡ slice_index_or given k c → k < length given → new ≡ found ++ more → IsPermutation (all c) more
    → IsPermutation (flat_map all given) (found ++ flat_map all (drop k given)) → IsPermutation (flat_map all given) (new ++ flat_map all (drop (k + 1) given))
all_step all given found more new k c e l q perm h =
    let f = flat_map all (drop (k + 1) given) in
    let one : IsPermutation (found ++ flat_map all (drop k given)) (found ++ (more ++ f)) =
    subst (λ xs. IsPermutation (found ++ flat_map all xs) (found ++ (more ++ f))) (sym (next_dropped given k c e l)) (IsPermutation-append_right found _ _ (IsPermutation-append_left f (all c) more perm)) in
    subst (λ xs. IsPermutation (flat_map all given) xs) (sym (append_assoc found more f) ∙ ap (λ xs. xs ++ f) (sym q))
    (IsPermutation-trans (flat_map all given) (found ++ flat_map all (drop k given)) (found ++ (more ++ f)) h one)

pub all_end : (all : Cell → List Cell) (given found : List Cell) (k : ℕ) → length given ≤ k → IsPermutation (flat_map all given) (found ++ flat_map all (drop k given)) → IsPermutation (flat_map all given) found
all_end all given found k n h = subst (λ xs. IsPermutation (flat_map all given) xs) (ap (λ xs. found ++ flat_map all xs) (none given k n) ∙ append-nil found) h
  where
    none : (xs : List Cell) (k : ℕ) → length xs ≤ k → drop k xs ≡ []
    none [] zero n = refl
    none [] (suc k) n = refl
    none (x ∷ xs) zero n = absurd (omega (arith, n))
    none (x ∷ xs) (suc k) n = none xs k (omega (arith, n))
