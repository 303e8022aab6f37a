-- the cell order of the cells at a flip: c for the second point stands before c for the first
use Rattle.std.proofs.Common.{◌↔◌, ◌<ℤ◌, ◌≡◌, ◌≢◌, ◌⊎◌, ℕ, zero, suc, ◌<◌, ◌≤◌, [], ◌∷◌, length, arith, refl, sym, ap, subst, ◌∙◌, inl, inr}
use native.Mathlib.Decide.{dec_lt}
use Rattle.cayley.proofs.Searching.Listing.{less_trans}
use Rattle.std.proofs.Math.IntN.{ℤ, pos}
use Rattle.cayley.proofs.Flipping.Exchange.{rising_is, rising_turn}
use Rattle.cayley.proofs.Flipping.Places.{place_of}
use Rattle.cayley.specs.Problems.{Problem}
use Rattle.cayley.specs.Cells.{Cell, IsOf, IsLess}
use Rattle.cayley.specs.Flips.{rising, put_pair, for_first, for_second, IsPredecessorAt}
use Rattle.cayley.specs.Dependencies.{pair_at, IsFurtherAt}
use Rattle.cayley.proofs.Searching.Parents.{less_irrefl}
use Rattle.cayley.proofs.OneCell.CellRows.{InRange}

abbrev PairLess : ℕ × ℕ → ℕ × ℕ → Type 0
PairLess x y = (x.0 < y.0) ⊎ ((x.0 ≡ y.0) × (x.1 < y.1))

put_less : (cell : Cell) (j : ℕ) (x y : ℕ × ℕ) → suc j ≤ length cell → PairLess x y → IsLess (put_pair cell j x) (put_pair cell j y)
put_less [] j x y l h = absurd (omega (arith, l))
put_less (z ∷ cell) zero x y l (inl h) = inl h
put_less (z ∷ cell) zero x y l (inr h) = inr (h.0, inl h.1)
put_less (z ∷ cell) (suc j) x y l h = inr (refl, inr (refl, put_less cell j x y (omega (arith, l)) h))

pair_less : (a b c : ℕ) → a < b → c ≢ a → c ≢ b → PairLess (rising a c) (rising b c)
pair_less a b c l n m =
    elim (dec_lt a c) [
      | yes ac ↦ elim (dec_lt b c) [
        | yes bc ↦ subst (λ q. PairLess q (rising b c)) (sym (rising_is a c ac)) (subst (PairLess (a, c)) (sym (rising_is b c bc)) (inl l))
        | no k ↦
            let cb : c < b = omega (arith, k, m) in
            subst (λ q. PairLess q (rising b c)) (sym (rising_is a c ac)) (subst (PairLess (a, c)) (sym (rising_turn b c ∙ rising_is c b cb)) (inl ac))
      ]
      | no k ↦
          let ca : c < a = omega (arith, k, n) in
          let cb : c < b = omega (arith, ca, l) in
          subst (λ q. PairLess q (rising b c)) (sym (rising_turn a c ∙ rising_is c a ca)) (subst (PairLess (c, a)) (sym (rising_turn b c ∙ rising_is c b cb)) (inr (refl, l)))
    ]

-- so two successors stand in the order second, first
pub second_less_first : (p : Problem) (cell : Cell) (j c : ℕ) → IsOf p cell → suc j ≤ length cell → IsFurtherAt p cell j c → IsLess (for_second cell j c) (for_first cell j c)
second_less_first p cell j c of bound further =
    let r = place_of InRange p.supports cell of j bound in
    put_less cell j (rising (pair_at cell j).0 c) (rising (pair_at cell j).1 c) bound (pair_less (pair_at cell j).0 (pair_at cell j).1 c r.1 further.2 further.3)

-- the cell itself stands before its flip for the second point exactly where c is past the second point, and for the first exactly where c is past the first
pub put_self : (cell : Cell) (j : ℕ) → put_pair cell j (pair_at cell j) ≡ cell
put_self [] j = refl
put_self (x ∷ cell) zero = refl
put_self (x ∷ cell) (suc j) = ap (λ l. x ∷ l) (put_self cell j)

pub cell_less_second : (p : Problem) (cell : Cell) (j c : ℕ) → IsOf p cell → suc j ≤ length cell → (pair_at cell j).1 < c → IsLess cell (for_second cell j c)
cell_less_second p cell j c of bound past =
    let r = place_of InRange p.supports cell of j bound in
    let a = (pair_at cell j).0 in
    let b = (pair_at cell j).1 in
    let e : rising a c ≡ (a, c) = rising_is a c (omega (arith, past, r.1)) in
    subst (λ l. IsLess l (for_second cell j c)) (put_self cell j) (put_less cell j (pair_at cell j) (rising a c) bound (subst (PairLess (a, b)) (sym e) (inr (refl, past))))

pub second_less_cell : (p : Problem) (cell : Cell) (j c : ℕ) → IsOf p cell → suc j ≤ length cell → IsFurtherAt p cell j c → c < (pair_at cell j).1 → IsLess (for_second cell j c) cell
second_less_cell p cell j c of bound further short =
    let r = place_of InRange p.supports cell of j bound in
    let a = (pair_at cell j).0 in
    let b = (pair_at cell j).1 in
    subst (IsLess (for_second cell j c)) (put_self cell j) (put_less cell j (rising a c) (pair_at cell j) bound
    (elim (dec_lt a c) [
      | yes ac ↦ subst (λ q. PairLess q (a, b)) (sym (rising_is a c ac)) (inr (refl, short))
      | no k ↦ let ca : c < a = omega (arith, k, further.2) in subst (λ q. PairLess q (a, b)) (sym (rising_turn a c ∙ rising_is c a ca)) (inl ca)
    ]))

pub cell_less_first : (p : Problem) (cell : Cell) (j c : ℕ) → IsOf p cell → suc j ≤ length cell → IsFurtherAt p cell j c → (pair_at cell j).0 < c → IsLess cell (for_first cell j c)
cell_less_first p cell j c of bound further past =
    let r = place_of InRange p.supports cell of j bound in
    let a = (pair_at cell j).0 in
    let b = (pair_at cell j).1 in
    subst (λ l. IsLess l (for_first cell j c)) (put_self cell j) (put_less cell j (pair_at cell j) (rising b c) bound
    (elim (dec_lt b c) [
      | yes bc ↦ subst (PairLess (a, b)) (sym (rising_is b c bc)) (inl r.1)
      | no k ↦ let cb : c < b = omega (arith, k, further.3) in subst (PairLess (a, b)) (sym (rising_turn b c ∙ rising_is c b cb)) (inl past)
    ]))

pub first_less_cell : (p : Problem) (cell : Cell) (j c : ℕ) → IsOf p cell → suc j ≤ length cell → c < (pair_at cell j).0 → IsLess (for_first cell j c) cell
first_less_cell p cell j c of bound short =
    let r = place_of InRange p.supports cell of j bound in
    let a = (pair_at cell j).0 in
    let b = (pair_at cell j).1 in
    let e : rising b c ≡ (c, b) = rising_turn b c ∙ rising_is c b (omega (arith, short, r.1)) in
    subst (IsLess (for_first cell j c)) (put_self cell j) (put_less cell j (rising b c) (pair_at cell j) bound (subst (λ q. PairLess q (a, b)) (sym e) (inl short)))

-- the cell is the least predecessor exactly where c stands past each point of the pair with the sign plus
pub least_where : (p : Problem) (cell : Cell) (j c : ℕ) (m : ℤ × ℤ) → IsOf p cell → suc j ≤ length cell → IsFurtherAt p cell j c
    → ((rho : Cell) → IsPredecessorAt cell j c m rho → ¬ (IsLess rho cell)) ↔ ((pos 0 <ℤ m.0 → (pair_at cell j).0 < c) × (pos 0 <ℤ m.1 → (pair_at cell j).1 < c))
least_where p cell j c m of bound further = (
  (λ h. (
    (λ q. elim (dec_lt (pair_at cell j).0 c) [
      | yes l ↦ l
      | no n ↦ absurd (h (for_first cell j c) (inr (inr (refl, q))) (first_less_cell p cell j c of bound (let f = further.2 in omega (arith, n, f))))
    ]),
    (λ q. elim (dec_lt (pair_at cell j).1 c) [
      | yes l ↦ l
      | no n ↦ absurd (h (for_second cell j c) (inr (inl (refl, q))) (second_less_cell p cell j c of bound further (let f = further.3 in omega (arith, n, f))))
    ]),
  )),
  (λ h rho i. elim i [
    | inl e ↦ λ l. less_irrefl cell (subst (λ k. IsLess k cell) e l)
    | inr k ↦ elim k [
      | inl e ↦ λ l. less_irrefl cell (less_trans cell (for_second cell j c) cell (cell_less_second p cell j c of bound (h.1 e.1)) (subst (λ k. IsLess k cell) e.0 l))
      | inr e ↦ λ l. less_irrefl cell (less_trans cell (for_first cell j c) cell (cell_less_first p cell j c of bound further (h.0 e.1)) (subst (λ k. IsLess k cell) e.0 l))
    ]
  ]),
)
