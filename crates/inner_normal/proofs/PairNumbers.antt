-- the coefficients two by two
use Rattle.std.proofs.Common.{◌≡◌, ℕ, zero, suc, ◌+◌, ◌*◌, ◌<◌, List, [], ◌∷◌, length, arith, refl, sym, ap, ap₂, ◌∙◌}
use Rattle.std.proofs.lemmas.Int.{ints}
use Rattle.std.proofs.Math.IntN.{ℤ, pos, ◌+ℤ◌, ◌-ℤ◌, ◌*ℤ◌, neg_ℤ}
use Rattle.int_vectors.specs.Vectors.{at, scale}
use Rattle.cayley.specs.Cells.{Cell}
use Rattle.cayley.specs.Dependencies.{number_at}
use Rattle.cayley.proofs.OneCell.OneDependency.{even_pairs, pairs_from}
use Rattle.cayley.proofs.Order.Lexicographic.{minus_one}
use Rattle.inner_normal.specs.Coefficients.{pairs_of, last_of}
use Rattle.inner_normal.specs.Coefficients.{less_own, coefficients_from}

-- both places one further
shifted : (i j : ℕ) (den : ℤ) (ms : List ℤ) → coefficients_from (suc i) (suc j) den ms ≡ coefficients_from i j den ms
shifted i j den [] = refl
shifted i j den (m ∷ ms) = ap (λ xs. less_own i j den m ∷ neg_ℤ m ∷ xs) (shifted (suc i) j den ms)

pub last-coefficients : (i j : ℕ) (den : ℤ) (ms : List ℤ) → last_of (coefficients_from i j den ms) ≡ den
last-coefficients i j den [] = refl
last-coefficients i j den (m ∷ ms) = last-coefficients (suc i) j den ms

pub length-coefficients : (i j : ℕ) (den : ℤ) (ms : List ℤ) → length (coefficients_from i j den ms) ≡ 2 * length ms + 1
length-coefficients i j den [] = refl
length-coefficients i j den (m ∷ ms) = let e = length-coefficients (suc i) j den ms in omega (arith, e)

twice : (m : ℤ) → m ≡ neg_ℤ (neg_ℤ (pos 1) *ℤ m)
twice m = let e = minus_one m in omega (arith, ints, e)

less : (m g : ℤ) → m -ℤ g ≡ neg_ℤ (neg_ℤ (pos 1) *ℤ m +ℤ g)
less m g = let e = minus_one m in omega (arith, ints, e)

past : (i : ℕ) (den : ℤ) (ms : List ℤ) (cell : Cell) → length ms ≡ length cell → pairs_of (coefficients_from (suc i) 0 den ms) ≡ even_pairs (scale (neg_ℤ (pos 1)) ms) cell
past i den [] [] e = refl
past i den [] (x ∷ cell) e = absurd (omega (arith, e))
past i den (m ∷ ms) [] e = absurd (omega (arith, e))
past i den (m ∷ ms) (x ∷ cell) e =
    ap₂ (λ x xs. x ∷ xs) (ap₂ (λ (a b : ℤ). (a, b)) (twice m) (sym (minus_one m))) (past (suc i) den ms cell (omega (arith, e)))

-- the pairs that a dependency of the rows has
pub pairs-coefficients : (j : ℕ) (den : ℤ) (ms : List ℤ) (cell : Cell) → length ms ≡ length cell → pairs_of (coefficients_from 0 j den ms) ≡ pairs_from (scale (neg_ℤ (pos 1)) ms) j den cell
pairs-coefficients j den [] [] e = refl
pairs-coefficients j den [] (x ∷ cell) e = absurd (omega (arith, e))
pairs-coefficients j den (m ∷ ms) [] e = absurd (omega (arith, e))
pairs-coefficients zero den (m ∷ ms) (x ∷ cell) e =
    ap₂ (λ x xs. x ∷ xs) (ap₂ (λ (a b : ℤ). (a, b)) (less m den) (sym (minus_one m))) (past 0 den ms cell (omega (arith, e)))
pairs-coefficients (suc j) den (m ∷ ms) (x ∷ cell) e =
    ap₂ (λ x xs. x ∷ xs) (ap₂ (λ (a b : ℤ). (a, b)) (twice m) (sym (minus_one m))) (ap pairs_of (shifted 0 j den ms) ∙ pairs-coefficients j den ms cell (omega (arith, e)))

-- the pair at a place stands at twice the place
pub pair_first : (xs : List ℤ) (i k : ℕ) → k ≡ 2 * i → k + 1 < length xs → (number_at (pairs_of xs) i).0 ≡ at xs k
pair_first [] i k e l = absurd (omega (arith, l))
pair_first (x ∷ []) i k e l = absurd (omega (arith, l))
pair_first (x ∷ y ∷ xs) zero zero e l = refl
pair_first (x ∷ y ∷ xs) zero (suc k) e l = absurd (omega (arith, e))
pair_first (x ∷ y ∷ xs) (suc i) zero e l = absurd (omega (arith, e))
pair_first (x ∷ y ∷ xs) (suc i) (suc zero) e l = absurd (omega (arith, e))
pair_first (x ∷ y ∷ xs) (suc i) (suc (suc k)) e l = pair_first xs i k (omega (arith, e)) (omega (arith, l))

second_from : (xs : List ℤ) (i k : ℕ) → k ≡ 2 * i → k + 1 < length xs → (number_at (pairs_of xs) i).1 ≡ at xs (suc k)
second_from [] i k e l = absurd (omega (arith, l))
second_from (x ∷ []) i k e l = absurd (omega (arith, l))
second_from (x ∷ y ∷ xs) zero zero e l = refl
second_from (x ∷ y ∷ xs) zero (suc k) e l = absurd (omega (arith, e))
second_from (x ∷ y ∷ xs) (suc i) zero e l = absurd (omega (arith, e))
second_from (x ∷ y ∷ xs) (suc i) (suc zero) e l = absurd (omega (arith, e))
second_from (x ∷ y ∷ xs) (suc i) (suc (suc k)) e l = second_from xs i k (omega (arith, e)) (omega (arith, l))

pub pair_second : (xs : List ℤ) (i k : ℕ) → k ≡ 2 * i → k + 1 < length xs → (number_at (pairs_of xs) i).1 ≡ at xs (k + 1)
pair_second xs i k e l = let s : suc k ≡ k + 1 = omega arith in second_from xs i k e l ∙ ap (at xs) s
