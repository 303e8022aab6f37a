-- permutations by counting, and what may be taken from both sides
use Rattle.std.proofs.Common.{◌≡◌, ◌≢◌, ℕ, suc, ◌+◌, ◌≤◌, List, [], ◌∷◌, ◌++◌, arith, refl, sym, ap, ap₂, subst, ◌∙◌, inl, inr}
use Rattle.std.specs.Prelude.{IsPermutation, sum_by}
use Rattle.std.proofs.lemmas.List.Sums.{sum_by-cons, sum_by-append}
use Rattle.std.proofs.lemmas.List.Sorted.{IsPermutation-refl, IsPermutation-sym, IsPermutation-trans, IsPermutation-cons, IsPermutation-middle, sum_by-IsPermutation}
use Rattle.cayley.proofs.Searching.Listing.{Has, Sorted, compare_cells, less_trans}
use Rattle.cayley.proofs.Searching.Parents.{dec_same_cell}
use Rattle.cayley.proofs.Searching.Members.{split}
use Rattle.cayley.specs.Cells.{Cell, IsLess}

-- 1 at the cell, 0 elsewhere
one_by : (c x : Cell) → Dec (c ≡ x) → ℕ
one_by c x (yes e) = 1
one_by c x (no n) = 0

pub is_at : Cell → Cell → ℕ
is_at c x = one_by c x (dec_same_cell c x)

pub count : Cell → List Cell → ℕ
count c xs = sum_by (is_at c) xs

one_same : (c x : Cell) → c ≡ x → (d : Dec (c ≡ x)) → one_by c x d ≡ 1
unfolding one_by
one_same c x e (yes q) = refl
one_same c x e (no n) = absurd (n e)

is_at_same : (c : Cell) → is_at c c ≡ 1
unfolding is_at
is_at_same c = one_same c c refl (dec_same_cell c c)

none_at : (c x : Cell) → c ≢ x → (d : Dec (c ≡ x)) → one_by c x d ≡ 0
unfolding one_by
none_at c x n (yes e) = absurd (n e)
none_at c x n (no m) = refl

count_has : (c : Cell) (xs : List Cell) → 1 ≤ count c xs → Has c xs
unfolding count is_at
count_has c [] l = absurd (omega arith)
count_has c (x ∷ xs) l = elim (dec_same_cell c x) [
  | yes e ↦ inl e
  | no n ↦ inr (count_has c xs (let i = sum_by-cons (is_at c) x xs in let z = none_at c x n (dec_same_cell c x) in omega (arith, i, z, l)))
]

pub count_permutation : (c : Cell) (xs ys : List Cell) → IsPermutation xs ys → count c xs ≡ count c ys
unfolding count
count_permutation c xs ys p = sym (sum_by-IsPermutation (is_at c) xs ys p)

pub count-append : (c : Cell) (xs ys : List Cell) → count c (xs ++ ys) ≡ count c xs + count c ys
unfolding count
count-append c xs ys = sum_by-append (is_at c) xs ys

pub count-nil : (y : Cell) → count y [] ≡ 0
unfolding count
count-nil y = refl

count-head : (x : Cell) (xs : List Cell) → count x (x ∷ xs) ≡ suc (count x xs)
unfolding count
count-head x xs = sum_by-cons (is_at x) x xs ∙ ap (λ n. n + sum_by (is_at x) xs) (is_at_same x) ∙ omega arith

pub count-cons : (c x : Cell) (xs : List Cell) → count c (x ∷ xs) ≡ is_at c x + count c xs
unfolding count
count-cons c x xs = sum_by-cons (is_at c) x xs

-- the same counts: a permutation
pub permutation_counts : (xs ys : List Cell) → ((c : Cell) → count c xs ≡ count c ys) → IsPermutation xs ys
permutation_counts [] [] h = IsPermutation-refl []
permutation_counts [] (y ∷ ys) h = absurd (let i = count-head y ys in let z = count-nil y in let e = h y in omega (arith, e, i, z))
permutation_counts (x ∷ xs) ys h =
    let i = count-head x xs in
    let s = split x ys (count_has x ys (let e = h x in omega (arith, e, i))) in
    let r = permutation_counts xs (s.left ++ s.right) (λ c.
    let a = count-append c s.left (x ∷ s.right) in
    let b = count-cons c x s.right in
    let d = count-cons c x xs in
    let e = h c in
    let f = ap (count c) s.is in
    let g = count-append c s.left s.right in
    omega (arith, a, b, d, e, f, g)) in
    subst (λ k. IsPermutation (x ∷ xs) k) (sym s.is)
    (IsPermutation-trans (x ∷ xs) (x ∷ (s.left ++ s.right)) (s.left ++ x ∷ s.right) (IsPermutation-cons x xs (s.left ++ s.right) r) (IsPermutation-sym (s.left ++ x ∷ s.right) (x ∷ (s.left ++ s.right)) (IsPermutation-middle s.left x s.right)))

pub has_count : (c : Cell) (xs : List Cell) → Has c xs → 1 ≤ count c xs
has_count c [] h = absurd h
has_count c (x ∷ xs) (inl e) = let i = count-head x xs in let j = ap (λ z. count z (x ∷ xs)) e in omega (arith, i, j)
has_count c (x ∷ xs) (inr h) = let i = count-cons c x xs in let j = has_count c xs h in omega (arith, i, j)

pub has_permutation : (c : Cell) (xs ys : List Cell) → IsPermutation xs ys → Has c xs → Has c ys
has_permutation c xs ys p h = count_has c ys (let i = count_permutation c xs ys p in let j = has_count c xs h in omega (arith, i, j))

-- no cell is less than the one before it, as a sort leaves them
abbrev pub NeverFalls : List Cell → Type 0
NeverFalls [] = Unit {0}
NeverFalls (x ∷ []) = Unit {0}
NeverFalls (x ∷ y ∷ xs) = ¬ (IsLess y x) × NeverFalls (y ∷ xs)

falls_tail : (x : Cell) (xs : List Cell) → NeverFalls (x ∷ xs) → NeverFalls xs
falls_tail x [] n = tt
falls_tail x (y ∷ xs) n = n.1

not_less_trans : (x y z : Cell) → ¬ (IsLess y x) → ¬ (IsLess z y) → ¬ (IsLess z x)
not_less_trans x y z p q r = elim (compare_cells x y) [
  | inl l ↦ q (less_trans z x y r l)
  | inr h ↦ elim h [ inl e ↦ q (subst (λ k. IsLess z k) e r) | inr l ↦ p l ]
]

first_least : (x c : Cell) (xs : List Cell) → NeverFalls (x ∷ xs) → Has c xs → ¬ (IsLess c x)
first_least x c [] n h = absurd h
first_least x c (y ∷ xs) n (inl e) = λ l. n.0 (subst (λ k. IsLess k x) e l)
first_least x c (y ∷ xs) n (inr h) = not_less_trans x y c n.0 (first_least y c xs n.1 h)

-- a sort of a permutation of a sorted list without repetition is that list
pub sorted_same : (xs ys : List Cell) → Sorted xs → NeverFalls ys → IsPermutation xs ys → xs ≡ ys
sorted_same [] [] s n p = refl
sorted_same [] (y ∷ ys) s n p = absurd (has_permutation y (y ∷ ys) [] (IsPermutation-sym [] (y ∷ ys) p) (inl refl))
sorted_same (x ∷ xs) [] s n p = absurd (has_permutation x (x ∷ xs) [] p (inl refl))
sorted_same (x ∷ xs) (y ∷ ys) s n p =
    let e = first in
    ap₂ (λ (z : Cell) (l : List Cell). z ∷ l) e (sorted_same xs ys s.1 (falls_tail y ys n) (permutation_counts xs ys (λ c.
    let i = count_permutation c (x ∷ xs) (y ∷ ys) p in
    let j = count-cons c x xs in
    let k = count-cons c y ys in
    let m = ap (is_at c) e in
    omega (arith, i, j, k, m))))
  where
    first : x ≡ y
    first = elim (has_permutation x (x ∷ xs) (y ∷ ys) p (inl refl)) [
      | inl e ↦ e
      | inr h ↦ elim (has_permutation y (y ∷ ys) (x ∷ xs) (IsPermutation-sym (x ∷ xs) (y ∷ ys) p) (inl refl)) [
        | inl e ↦ sym e
        | inr k ↦ absurd (first_least y x ys n h (s.0 y k))
      ]
    ]
