-- the first number of a circuit that isn't 0, support by support
use Rattle.std.proofs.Common.{◌≡◌, ◌≢◌, ◌↔◌, ◌+◌, ◌-◌, ◌*◌, ◌<◌, ◌≤◌, ◌==◌, ◌++◌, ℕ, zero, suc, if◌then◌else◌, List, [], ◌∷◌, length, drop, get_or, drop-cons, arith, refl, sym, ap, ap₂, subst, ◌∙◌, inl, inr, ◌<ℤ◌}
use Rattle.std.proofs.lemmas.Int.{ints}
use Rattle.std.proofs.Math.IntN.{ℤ, pos, negsuc}
use Rattle.int_vectors.specs.Vectors.{IsPositive, at}
use Rattle.cayley.specs.Cells.{Cell}
use Rattle.cayley.specs.Dependencies.{number_at}
use Rattle.inner_normal.specs.Coefficients.{pairs_of, last_of}
use Rattle.inner_normal.specs.Orders.{two, three, in_order}
use Rattle.inner_normal.proofs.PairNumbers.{pair_first, pair_second}
use Rattle.inner_normal.proofs.PairLists.{pairs_count}
use Rattle.cell_certificate.specs.Ties.{leading}

leading_zero : (xs ys : List ℤ) → leading xs ≡ pos 0 → IsPositive (xs ++ ys) ↔ IsPositive ys
leading_zero [] ys e = ((λ p. p), (λ p. p))
leading_zero (pos zero ∷ xs) ys e =
    let r = leading_zero xs ys e in (
      (λ p. elim p [ inl q ↦ absurd (omega (arith, ints, q)) | inr q ↦ r.0 q.1 ]),
      (λ p. inr (refl, r.1 p)),
    )
leading_zero (pos (suc n) ∷ xs) ys e = absurd (omega (arith, ints, e))
leading_zero (negsuc n ∷ xs) ys e = absurd (omega (arith, ints, e))

leading_other : (xs ys : List ℤ) → leading xs ≢ pos 0 → IsPositive (xs ++ ys) ↔ (pos 0 <ℤ leading xs)
leading_other [] ys n = absurd (n refl)
leading_other (pos zero ∷ xs) ys n =
    let r = leading_other xs ys n in (
      (λ p. elim p [ inl q ↦ absurd (omega (arith, ints, q)) | inr q ↦ r.0 q.1 ]),
      (λ p. inr (refl, r.1 p)),
    )
leading_other (pos (suc m) ∷ xs) ys n = ((λ p. omega (arith, ints)), (λ q. inl q))
leading_other (negsuc m ∷ xs) ys n = ((λ p. elim p [ inl q ↦ q | inr q ↦ absurd (let e = q.0 in omega (arith, ints, e)) ]), (λ q. inl q))

-- ---- the numbers by places
pub last_is : (xs : List ℤ) (n k : ℕ) → k ≡ 2 * n → length xs ≡ 2 * n + 1 → last_of xs ≡ at xs k
last_is [] n k h e = absurd (omega (arith, e))
last_is (x ∷ []) n zero h e = refl
last_is (x ∷ []) n (suc k) h e = absurd (omega (arith, h, e))
last_is (x ∷ y ∷ xs) zero k h e = absurd (omega (arith, e))
last_is (x ∷ y ∷ xs) (suc n) zero h e = absurd (omega (arith, h))
last_is (x ∷ y ∷ xs) (suc n) (suc zero) h e = absurd (omega (arith, h))
last_is (x ∷ y ∷ xs) (suc n) (suc (suc k)) h e = last_is xs n k (omega (arith, h)) (omega (arith, e))

pairs_drop : (ms : List (ℤ × ℤ)) (k : ℕ) → k < length ms → drop k ms ≡ number_at ms k ∷ drop (suc k) ms
pairs_drop [] k l = absurd (omega (arith, l))
pairs_drop (m ∷ ms) zero l = refl
pairs_drop (m ∷ ms) (suc k) l = pairs_drop ms k (omega (arith, l))

-- the numbers of the support at a place
abbrev pub block : ℕ → ℕ → ℕ → ℕ × ℕ → ℤ × ℤ → ℤ → List ℤ
block k j c x m last = if k == j then three x m c last else two m

abbrev pub rest : ℕ → ℕ → ℕ → List ℤ → Cell → List ℤ
rest k j c xs cell = in_order k j c (last_of xs) (drop k (pairs_of xs)) (drop k cell)

module _ (xs : List ℤ) (cell : Cell) (j c k : ℕ) (long : length xs ≡ 2 * length cell + 1) (l : k < length cell) (x : ℕ × ℕ) (m : ℤ × ℤ) (is : x ≡ get_or cell k (0, 0))
    (first : m.0 ≡ at xs (2 * k)) (second : m.1 ≡ at xs (2 * k + 1)) (last : ℤ) (end : last ≡ at xs (2 * length cell)) where
  count : length (pairs_of xs) ≡ length cell
  count = pairs_count xs (length cell) long

  number : number_at (pairs_of xs) k ≡ m
  number =
      let b : 2 * k + 1 < length xs = omega (arith, long, l) in
      ap₂ (λ (a b : ℤ). (a, b)) (pair_first xs k (2 * k) refl b ∙ sym first) (pair_second xs k (2 * k) refl b ∙ sym second)

  unfolded : rest k j c xs cell ≡ block k j c x m last ++ rest (suc k) j c xs cell
  unfolded =
      let p = pairs_drop (pairs_of xs) k (omega (arith, l, count)) ∙ ap (λ y. y ∷ drop (suc k) (pairs_of xs)) number in
      let q = drop-cons cell k (0, 0) l ∙ ap (λ y. y ∷ drop (suc k) cell) (sym is) in
      let e = last_is xs (length cell) (2 * length cell) refl long ∙ sym end in
      ap₂ (λ ms (ys : Cell). in_order k j c (last_of xs) ms ys) p q ∙ ap (λ g. block k j c x m g ++ rest (suc k) j c xs cell) e

  pub went_by : (P : Type 0) (z : ℤ) → z ≡ leading (block k j c x m last) → z ≡ pos 0 → P ↔ IsPositive (rest k j c xs cell) → P ↔ IsPositive (rest (k + 1) j c xs cell)
  went_by P z e n r =
      let s = leading_zero (block k j c x m last) (rest (suc k) j c xs cell) (sym e ∙ n) in
      let next : suc k ≡ k + 1 = omega arith in
      subst (λ i. P ↔ IsPositive (rest i j c xs cell)) next (
        (λ p. s.0 (subst IsPositive unfolded (r.0 p))),
        (λ q. r.1 (subst IsPositive (sym unfolded) (s.1 q))),
      )

  pub decided : (P : Type 0) (z : ℤ) → z ≡ leading (block k j c x m last) → z ≢ pos 0 → P ↔ IsPositive (rest k j c xs cell) → P ↔ (pos 0 <ℤ z)
  decided P z e n r =
      let s = leading_other (block k j c x m last) (rest (suc k) j c xs cell) (λ h. n (e ∙ h)) in (
        (λ p. subst (λ y. pos 0 <ℤ y) (sym e) (s.0 (subst IsPositive unfolded (r.0 p)))),
        (λ q. r.1 (subst IsPositive (sym unfolded) (s.1 (subst (λ y. pos 0 <ℤ y) e q)))),
      )

pub ended : (xs : List ℤ) (cell : Cell) (j c k : ℕ) → length cell ≤ k → ¬ (IsPositive (rest k j c xs cell))
ended xs cell j c k l p = subst IsPositive (ap (λ (ys : Cell). in_order k j c (last_of xs) (drop k (pairs_of xs)) ys) (past cell k l) ∙ none (drop k (pairs_of xs))) p
  where
    past : (cell : Cell) (k : ℕ) → length cell ≤ k → drop k cell ≡ []
    past [] zero l = refl
    past [] (suc k) l = refl
    past (x ∷ cell) zero l = absurd (omega (arith, l))
    past (x ∷ cell) (suc k) l = past cell k (omega (arith, l))

    none : (ms : List (ℤ × ℤ)) → in_order k j c (last_of xs) ms [] ≡ []
    none [] = refl
    none (m ∷ ms) = refl
