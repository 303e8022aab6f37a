-- one more turn of a loop
use Rattle.std.proofs.Common.{◌≡◌, ◌↔◌, ℕ, zero, suc, ◌+◌, ◌<◌, ◌≤◌, Bool, List, [], ◌∷◌, length, drop, get_or, drop-cons, add-one, drop_of_length-le, arith, refl, sym, subst}
use Rattle.std.specs.Prelude.{IsTrue}
use Rattle.cayley.specs.Problems.{Point}
use Rattle.cayley.specs.Cells.{Cell, EachPair}
use Rattle.wide_int.proofs.Turns.{next_all, next_below}

pub next_test : (P : ℕ → Type 0) (i : ℕ) (old one new : Bool) → IsTrue old ↔ ((c : ℕ) → c ≤ i → P c) → IsTrue one ↔ P (i + 1) → IsTrue new ↔ (IsTrue one × IsTrue old)
    → IsTrue new ↔ ((c : ℕ) → c ≤ i + 1 → P c)
next_test P i old one new o p n = (
  (λ t. let h = n.0 t in next_all P i (o.0 h.1) (p.0 h.0)),
  (λ f. n.1 (p.1 (f (i + 1) (omega arith)), o.1 (λ c h. f c (omega (arith, h))))),
)

-- what holds of each pair from a place on
pub pairs_step : (supports : List (List Point)) (cell : Cell) (P : List Point → ℕ → ℕ → Type 0) (k : ℕ) → k < length supports → k < length cell
    → EachPair (drop k supports) (drop k cell) P ≡ (P (get_or supports k []) (get_or cell k (0, 0)).0 (get_or cell k (0, 0)).1 × EachPair (drop (k + 1) supports) (drop (k + 1) cell) P)
pairs_step supports cell P k h i = rw (add-one, drop-cons supports k [], drop-cons cell k (0, 0)) refl

pub pair_at : (supports : List (List Point)) (cell : Cell) (P : List Point → ℕ → ℕ → Type 0) (k : ℕ) → EachPair supports cell P → k < length cell
    → (k < length supports) × P (get_or supports k []) (get_or cell k (0, 0)).0 (get_or cell k (0, 0)).1
pair_at [] [] P k e h = absurd (omega arith)
pair_at [] (pair ∷ cell) P k e h = absurd e
pair_at (s ∷ supports) [] P k e h = absurd e
pair_at (s ∷ supports) (pair ∷ cell) P zero e h = (omega arith, e.0)
pair_at (s ∷ supports) (pair ∷ cell) P (suc k) e h = let r = pair_at supports cell P k e.1 (omega arith) in (omega (arith, r.0), r.1)

-- one support at a time: what is left, and what is known of those before
module _ (supports : List (List Point)) (cell : Cell) (P : List Point → ℕ → ℕ → Type 0) (k : ℕ) (hs : k < length supports) (hc : k < length cell) where
  pub left_not : EachPair supports cell P ↔ EachPair (drop k supports) (drop k cell) P → ¬ (P (get_or supports k []) (get_or cell k (0, 0)).0 (get_or cell k (0, 0)).1)
      → ¬ (EachPair supports cell P)
  left_not r n e = n (subst (λ T. T) (pairs_step supports cell P k hs hc) (r.0 e)).0

  pub left_more : EachPair supports cell P ↔ EachPair (drop k supports) (drop k cell) P → P (get_or supports k []) (get_or cell k (0, 0)).0 (get_or cell k (0, 0)).1
      → EachPair supports cell P ↔ EachPair (drop (k + 1) supports) (drop (k + 1) cell) P
  left_more r p = (
    (λ e. (subst (λ T. T) (pairs_step supports cell P k hs hc) (r.0 e)).1),
    (λ e. r.1 (subst (λ T. T) (sym (pairs_step supports cell P k hs hc)) (p, e))),
  )

  pub known_more : (old one new : Bool) → EachPair supports cell P ↔ (IsTrue old × EachPair (drop k supports) (drop k cell) P)
      → IsTrue one ↔ P (get_or supports k []) (get_or cell k (0, 0)).0 (get_or cell k (0, 0)).1 → IsTrue new ↔ (IsTrue old × IsTrue one)
      → EachPair supports cell P ↔ (IsTrue new × EachPair (drop (k + 1) supports) (drop (k + 1) cell) P)
  known_more old one new r p n = (
    (λ e.
        let h = r.0 e in
        let q = subst (λ T. T) (pairs_step supports cell P k hs hc) h.1 in
        (n.1 (h.0, p.1 q.0), q.1)),
    (λ e.
        let h = n.0 e.0 in
        r.1 (h.0, subst (λ T. T) (sym (pairs_step supports cell P k hs hc)) (p.0 h.1, e.1))),
  )

-- at the end nothing is left
pub left_none : (supports : List (List Point)) (cell : Cell) (P : List Point → ℕ → ℕ → Type 0) (k : ℕ) → length supports ≤ k → length cell ≤ k
    → EachPair supports cell P ↔ EachPair (drop k supports) (drop k cell) P → EachPair supports cell P
left_none supports cell P k h i r = r.1 (rw (drop_of_length-le supports h, drop_of_length-le cell i) tt)

pub known_all : (supports : List (List Point)) (cell : Cell) (P : List Point → ℕ → ℕ → Type 0) (k : ℕ) (known : Bool) → length supports ≤ k → length cell ≤ k
    → EachPair supports cell P ↔ (IsTrue known × EachPair (drop k supports) (drop k cell) P) → IsTrue known ↔ EachPair supports cell P
known_all supports cell P k known h i r = (
  (λ t. r.1 (t, rw (drop_of_length-le supports h, drop_of_length-le cell i) tt)),
  (λ e. (r.0 e).0),
)

-- the same for places below a bound
pub next_test_below : (P : ℕ → Type 0) (i : ℕ) (old one new : Bool) → IsTrue old ↔ ((j : ℕ) → j < i → P j) → IsTrue one ↔ P i → IsTrue new ↔ (IsTrue one × IsTrue old)
    → IsTrue new ↔ ((j : ℕ) → j < i + 1 → P j)
next_test_below P i old one new o p n = (
  (λ t. let h = n.0 t in next_below P i (o.0 h.1) (p.0 h.0)),
  (λ f. n.1 (p.1 (f i (omega arith)), o.1 (λ j h. f j (omega (arith, h))))),
)
