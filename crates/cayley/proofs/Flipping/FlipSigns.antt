-- the rules of flips by two signs
use Rattle.std.proofs.Common.{◌≡◌, ◌↔◌, ◌⊎◌, ◌<ℤ◌, ℕ, zero, suc, ◌<◌, ◌≤◌, List, [], ◌∷◌, length, arith, refl, sym, subst, inl, inr, Contains}
use Rattle.std.proofs.lemmas.Int.{ints}
use Rattle.std.proofs.Math.IntN.{ℤ, pos}
use Rattle.cayley.proofs.Flipping.FlipOrder.{second_less_first, least_where, cell_less_first, first_less_cell, cell_less_second, second_less_cell}
use Rattle.cayley.proofs.Flipping.FlipNeighbours.{swap_sum}
use native.Mathlib.Decide.{dec_lt}
use Rattle.cayley.specs.Problems.{Problem}
use Rattle.cayley.specs.Cells.{Cell, IsOf, IsLess, IsSorted, IsListOf}
use Rattle.cayley.specs.Dependencies.{pair_at, IsFurtherAt}
use Rattle.cayley.specs.Flips.{for_first, for_second, IsPredecessorAt}
use Rattle.cayley.specs.declared.found.Sign.{Sign}
use Rattle.cayley.specs.declared.found.Sign.TheVariants.{Minus, Zero, Plus}
use Rattle.cayley.specs.Signs.{HasSign}
use Rattle.cayley.specs.FlipRules.{taken, PastWhere, in_order, predecessors_by}
use Rattle.cayley.specs.FlipLaws.{FlipRule, PredecessorRule}
use Rattle.cayley.proofs.Flipping.Places.{further_bound}
use Rattle.cayley.proofs.Lists.Pairs.{pairs_long}

contains_none : {A : Type 0} (x : A) → ¬ (Contains [] x)
contains_none x h = let l = h.1 in omega (arith, l)

contains_to : {A : Type 0} (x y : A) (xs : List A) → Contains (y ∷ xs) x → (x ≡ y) ⊎ Contains xs x
contains_to x y xs (zero, l, e) = inl (sym e)
contains_to x y xs (suc i, l, e) = inr (i, omega (arith, l), e)

contains_from : {A : Type 0} (x y : A) (xs : List A) → (x ≡ y) ⊎ Contains xs x → Contains (y ∷ xs) x
contains_from x y xs (inl e) = (0, omega arith, sym e)
contains_from x y xs (inr h) = let l = h.1 in (suc h.0, omega (arith, l), h.2)

-- with the cell in front where the number is negative
taken_is : (s : Sign) (k : ℤ) (x y : Cell) (cells : List Cell) → HasSign s k → Contains (taken s x cells) y ↔ (((y ≡ x) × (k <ℤ pos 0)) ⊎ Contains cells y)
taken_is Minus k x y cells h = (
  (λ q. elim (contains_to y x cells q) [ inl e ↦ inl (e, h) | inr r ↦ inr r ]),
  (λ q. elim q [ inl e ↦ contains_from y x cells (inl e.0) | inr r ↦ contains_from y x cells (inr r) ]),
)
taken_is Zero k x y cells h = ((λ q. inr q), (λ q. elim q [ inl e ↦ let n = e.1 in absurd (omega (arith, ints, h, n)) | inr r ↦ r ]))
taken_is Plus k x y cells h = ((λ q. inr q), (λ q. elim q [ inl e ↦ let n = e.1 in absurd (omega (arith, ints, h, n)) | inr r ↦ r ]))

sorted_two : (x y : Cell) (a b : Sign) → IsLess x y → IsSorted (taken b x (taken a y []))
sorted_two x y Minus Minus l = (l, tt)
sorted_two x y Zero Minus l = tt
sorted_two x y Plus Minus l = tt
sorted_two x y Minus Zero l = tt
sorted_two x y Zero Zero l = tt
sorted_two x y Plus Zero l = tt
sorted_two x y Minus Plus l = tt
sorted_two x y Zero Plus l = tt
sorted_two x y Plus Plus l = tt

past_where : (s : Sign) (k : ℤ) (x c : ℕ) → HasSign s k → (pos 0 <ℤ k → x < c) ↔ PastWhere s x c
past_where Minus k x c h = ((λ q. tt), (λ q n. absurd (omega (arith, ints, h, n))))
past_where Zero k x c h = ((λ q. tt), (λ q n. absurd (omega (arith, ints, h, n))))
past_where Plus k x c h = ((λ q. q h), (λ q n. q))

pub flip_rule : FlipRule
flip_rule p cell j c m a b of further ha hb =
    let bound = further_bound p.supports cell j c (pairs_long p.supports cell _ of) further in
    let x = for_second cell j c in
    let y = for_first cell j c in
    let l = least_where p cell j c m of bound further in
    let u = past_where a m.0 (pair_at cell j).0 c ha in
    let v = past_where b m.1 (pair_at cell j).1 c hb in (
      (
        sorted_two x y a b (second_less_first p cell j c of bound further),
        (λ tau.
            let f = taken_is b m.1 x tau (taken a y []) hb in
            let g = taken_is a m.0 y tau [] ha in (
              (λ h. elim (f.0 h) [ inl e ↦ inl e | inr r ↦ elim (g.0 r) [ inl e ↦ inr e | inr n ↦ absurd (contains_none tau n) ] ]),
              (λ h. elim h [ inl e ↦ f.1 (inl e) | inr e ↦ f.1 (inr (g.1 (inl e))) ]),
            )),
      ),
      ((λ h. let q = l.0 h in (u.0 q.0, v.0 q.1)), (λ h. l.1 (u.1 h.0, v.1 h.1))),
    )

-- ---- predecessors
in_order_past : (x c : ℕ) (cell flip : Cell) → x < c → in_order x c cell flip ≡ cell ∷ flip ∷ []
in_order_past x zero cell flip l = absurd (omega arith)
in_order_past zero (suc c) cell flip l = refl
in_order_past (suc x) (suc c) cell flip l = in_order_past x c cell flip (omega arith)

in_order_short : (x c : ℕ) (cell flip : Cell) → c ≤ x → in_order x c cell flip ≡ flip ∷ cell ∷ []
in_order_short x zero cell flip l = refl
in_order_short zero (suc c) cell flip l = absurd (omega arith)
in_order_short (suc x) (suc c) cell flip l = in_order_short x c cell flip (omega arith)

list_one : (P : Cell → Type 0) (x : Cell) → P x → ((y : Cell) → P y → y ≡ x) → IsListOf P (x ∷ [])
list_one P x h f = (tt, λ y. ((λ q. elim (contains_to y x [] q) [ inl e ↦ subst P (sym e) h | inr n ↦ absurd (contains_none y n) ]), (λ q. contains_from y x [] (inl (f y q)))))

list_two : (P : Cell → Type 0) (x y : Cell) → IsLess x y → P x → P y → ((z : Cell) → P z → (z ≡ x) ⊎ (z ≡ y)) → IsListOf P (x ∷ y ∷ [])
list_two P x y l h g f = (
  (l, tt),
  (λ z. (
    (λ q. elim (contains_to z x (y ∷ []) q) [
      | inl e ↦ subst P (sym e) h
      | inr r ↦ elim (contains_to z y [] r) [ inl e ↦ subst P (sym e) g | inr n ↦ absurd (contains_none z n) ]
    ]),
    (λ q. elim (f z q) [ inl e ↦ contains_from z x (y ∷ []) (inl e) | inr e ↦ contains_from z x (y ∷ []) (inr (contains_from z y [] (inl e))) ]),
  )),
)

list_in_order : (P : Cell → Type 0) (x c : ℕ) (cell flip : Cell) → (x < c → IsLess cell flip) → (c ≤ x → IsLess flip cell) → P cell → P flip → ((z : Cell) → P z → (z ≡ cell) ⊎ (z ≡ flip)) → IsListOf P (in_order x c cell flip)
list_in_order P x c cell flip past short h g f =
    elim (dec_lt x c) [
      | yes l ↦ subst (IsListOf P) (sym (in_order_past x c cell flip l)) (list_two P cell flip (past l) h g f)
      | no n ↦
          let l : c ≤ x = omega (arith, n) in
          subst (IsListOf P) (sym (in_order_short x c cell flip l)) (list_two P flip cell (short l) g h (λ z q. swap_sum (f z q)))
    ]

module _ (p : Problem) (cell : Cell) (j c : ℕ) (m : ℤ × ℤ) (of : IsOf p cell) (bound : suc j ≤ length cell) (further : IsFurtherAt p cell j c) where
  only_cell : ¬ (pos 0 <ℤ m.0) → ¬ (pos 0 <ℤ m.1) → IsListOf (IsPredecessorAt cell j c m) (cell ∷ [])
  only_cell u v = list_one (IsPredecessorAt cell j c m) cell (inl refl) (λ y h. elim h [ inl e ↦ e | inr k ↦ elim k [ inl e ↦ absurd (v e.1) | inr e ↦ absurd (u e.1) ] ])

  with_first : pos 0 <ℤ m.0 → ¬ (pos 0 <ℤ m.1) → IsListOf (IsPredecessorAt cell j c m) (in_order (pair_at cell j).0 c cell (for_first cell j c))
  with_first u v =
      list_in_order (IsPredecessorAt cell j c m) (pair_at cell j).0 c cell (for_first cell j c) (cell_less_first p cell j c of bound further) (λ l. first_less_cell p cell j c of bound (let f = further.2 in omega (arith, l, f)))
      (inl refl) (inr (inr (refl, u))) (λ z h. elim h [ inl e ↦ inl e | inr k ↦ elim k [ inl e ↦ absurd (v e.1) | inr e ↦ inr e.0 ] ])

  with_second : ¬ (pos 0 <ℤ m.0) → pos 0 <ℤ m.1 → IsListOf (IsPredecessorAt cell j c m) (in_order (pair_at cell j).1 c cell (for_second cell j c))
  with_second u v =
      list_in_order (IsPredecessorAt cell j c m) (pair_at cell j).1 c cell (for_second cell j c) (cell_less_second p cell j c of bound) (λ l. second_less_cell p cell j c of bound further (let f = further.3 in omega (arith, l, f)))
      (inl refl) (inr (inl (refl, v))) (λ z h. elim h [ inl e ↦ inl e | inr k ↦ elim k [ inl e ↦ inr e.0 | inr e ↦ absurd (u e.1) ] ])

predecessors_are : (p : Problem) (cell : Cell) (j c : ℕ) (m : ℤ × ℤ) (a b : Sign) → IsOf p cell → suc j ≤ length cell → IsFurtherAt p cell j c → HasSign a m.0 → HasSign b m.1
    → ¬ ((pos 0 <ℤ m.0) × (pos 0 <ℤ m.1)) → IsListOf (IsPredecessorAt cell j c m) (predecessors_by cell j c a b)
predecessors_are p cell j c m Minus Minus of bound further ha hb n = only_cell p cell j c m of bound further (λ q. omega (arith, ints, ha, q)) (λ q. omega (arith, ints, hb, q))
predecessors_are p cell j c m Minus Zero of bound further ha hb n = only_cell p cell j c m of bound further (λ q. omega (arith, ints, ha, q)) (λ q. omega (arith, ints, hb, q))
predecessors_are p cell j c m Zero Minus of bound further ha hb n = only_cell p cell j c m of bound further (λ q. omega (arith, ints, ha, q)) (λ q. omega (arith, ints, hb, q))
predecessors_are p cell j c m Zero Zero of bound further ha hb n = only_cell p cell j c m of bound further (λ q. omega (arith, ints, ha, q)) (λ q. omega (arith, ints, hb, q))
predecessors_are p cell j c m Plus Minus of bound further ha hb n = with_first p cell j c m of bound further ha (λ q. omega (arith, ints, hb, q))
predecessors_are p cell j c m Plus Zero of bound further ha hb n = with_first p cell j c m of bound further ha (λ q. omega (arith, ints, hb, q))
predecessors_are p cell j c m Minus Plus of bound further ha hb n = with_second p cell j c m of bound further (λ q. omega (arith, ints, ha, q)) hb
predecessors_are p cell j c m Zero Plus of bound further ha hb n = with_second p cell j c m of bound further (λ q. omega (arith, ints, ha, q)) hb
predecessors_are p cell j c m Plus Plus of bound further ha hb n = absurd (n (ha, hb))

pub predecessor_rule : PredecessorRule
predecessor_rule p cell j c m a b of further = predecessors_are p cell j c m a b of (further_bound p.supports cell j c (pairs_long p.supports cell _ of) further) further
