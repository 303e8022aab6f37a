-- All rows join their workers, and what is left is taken.
use Rattle.std.proofs.Common.{◌≡◌, ℕ, zero, suc, ◌<◌, ◌≤◌, ◌-◌, ◌+◌, List, [], ◌∷◌, ◌++◌, map, length, get_or, take, drop, reverse, refl, ap, sym, ◌∙◌, arith, cond, ◌==◌, subst, append_assoc, length-append}
use Rattle.std.specs.Prelude.{IsPermutation}
use Rattle.std.specs.List.{All, range_with_len, sum_by}
use Rattle.std.proofs.lemmas.List.{length-map, get_or-map, map-append, reverse-append}
use Rattle.std.proofs.lemmas.List.Sums.{sum_by-append, sum_by-cons}
use Rattle.std.proofs.lemmas.List.Elements.{All-head, All-tail}
use Rattle.std.proofs.lemmas.List.FromFn.{get_or-map-range_with_len}
use Rattle.std.proofs.lemmas.List.Sorted.{IsPermutation-trans, IsPermutation-append_left, IsPermutation-append_right}
use Rattle.std.proofs.lemmas.Bool.Decides.{nat_tests}
use Rattle.branch_pool.specs.Parts.{Numbered, added, one_if_upto, row}
use Rattle.branch_pool.proofs.Absorbed.{last_taken}
use Rattle.branch_pool.proofs.Dealt.{take_snoc}
use Rattle.branch_pool.proofs.Fresh.{alike_range, length_range}

-- what the worker of deque k has when the rows 1 to m have joined, of n
abbrev pub gained : ℕ → ℕ → ℕ → ℕ
gained n m k = 65 - n + m - one_if_upto k m

added_maps : (f h : ℕ → ℕ) (xs : List ℕ) → added (map f xs) (map h xs) ≡ map (λ k. f k + h k) xs
added_maps f h [] = refl
added_maps f h (x ∷ xs) = ap (λ l. (f x + h x) ∷ l) (added_maps f h xs)

gained_step : (n m k : ℕ) → 1 ≤ k → k < 1 + n → m < n → n ≤ 64 → gained n m k + cond (k == m + 1) 0 1 ≡ gained n (m + 1) k
gained_step n m k least below lt most = grind (arith, nat_tests)

pub gained_row : (n m m' : ℕ) → m < n → n ≤ 64 → m' ≡ m + 1 → added (map (λ k. gained n m k) (range_with_len 1 n)) (row (m + 1) n) ≡ map (λ k. gained n m' k) (range_with_len 1 n)
gained_row n m m' lt most next =
    added_maps (λ k. gained n m k) (λ k. cond (k == m + 1) 0 1) (range_with_len 1 n)
    ∙ alike_range (λ k. gained n m k + cond (k == m + 1) 0 1) (λ k. gained n (m + 1) k) 1 n (λ k least below. gained_step n m k least below lt most)
    ∙ ap (λ j. map (λ k. gained n j k) (range_with_len 1 n)) (sym next)

all_same : {X : Type 0} (f : X → ℕ) (c : ℕ) (a : ℕ) (xs : List X) → All (λ x. f x ≡ c) xs → map f xs ≡ map (λ (k : ℕ). c) (range_with_len a (length xs))
all_same f c a [] all = refl
all_same f c a (x ∷ xs) all = rw (All-head (λ x. f x ≡ c) x xs all) (ap (λ l. c ∷ l) (all_same f c (a + 1) xs (All-tail (λ x. f x ≡ c) x xs all)))

gained_none : (n m k : ℕ) → 1 ≤ k → m ≡ 0 → 65 - n ≡ gained n m k
gained_none n m k least e = grind (arith, nat_tests)

pub gained_first : {X : Type 0} (f : X → ℕ) (xs : List X) (m : ℕ) → m ≡ 0 → All (λ x. f x ≡ 65 - length xs) xs → map f xs ≡ map (λ k. gained (length xs) m k) (range_with_len 1 (length xs))
gained_first f xs m none all =
    all_same f (65 - length xs) 1 xs all ∙ alike_range (λ k. 65 - length xs) (λ k. gained (length xs) m k) 1 (length xs) (λ k least below. gained_none (length xs) m k least none)

gained_all : (n m k : ℕ) → k < n → n ≤ 64 → m ≡ n → gained n m (k + 1) ≡ 64
gained_all n m k lt most e = grind (arith, nat_tests)

pub gained_last : {X : Type 0} (f : X → ℕ) (xs : List X) (n m : ℕ) → m ≡ n → n ≤ 64 → map f xs ≡ map (λ k. gained n m k) (range_with_len 1 n) → All (λ x. f x ≡ 64) xs
gained_last f xs n m last most e = λ i d lt.
    let len : length xs ≡ n = sym (length-map xs f) ∙ ap length e ∙ length-map (range_with_len 1 n) (λ k. gained n m k) ∙ length_range 1 n in
    let below : i < n = omega (arith, lt, len) in
    sym (get_or-map f xs i d 0 lt) ∙ ap (λ l. get_or l i 0) e ∙ get_or-map-range_with_len (λ k. gained n m k) 1 n i (i + 1) 0 below (omega arith) ∙ gained_all n m i below most last

-- a list is taken off its end, and its turned list off its head
pub turned_pop : {X : Type 0} (P : ℕ → X → Type 0) (k k' : ℕ) (xs ys : List X) (x : X) → ys ≡ xs ++ x ∷ [] → k' ≡ k + 1 → Numbered P k (reverse ys) → P k x × Numbered P k' (reverse xs)
turned_pop P k k' xs ys x more next all =
    let e : reverse ys ≡ x ∷ reverse xs = ap reverse more ∙ reverse-append xs (x ∷ []) in
    let r = subst (λ l. Numbered P k l) e all in
    (r.0, subst (λ n. Numbered P n (reverse xs)) (sym next) r.1)

pub turned_push : {X : Type 0} (P : ℕ → X → Type 0) (k k' : ℕ) (xs ys : List X) (x : X) → ys ≡ xs ++ x ∷ [] → k' ≡ k + 1 → P k x → Numbered P k' (reverse xs) → Numbered P k (reverse ys)
turned_push P k k' xs ys x more next here all =
    let e : reverse ys ≡ x ∷ reverse xs = ap reverse more ∙ reverse-append xs (x ∷ []) in
    subst (λ l. Numbered P k l) (sym e) (here, subst (λ n. Numbered P n (reverse xs)) next all)

pub last_dropped : {X : Type 0} (xs ys : List X) (x : X) → xs ++ x ∷ [] ≡ take (suc (length xs)) ys → drop (length xs) ys ≡ x ∷ drop (suc (length xs)) ys
last_dropped [] [] x e = absurd (let n : 1 ≡ 0 = ap length e in omega (arith, n))
last_dropped [] (y ∷ ys) x e = ap (λ z. z ∷ ys) (sym (ap (λ l. get_or l 0 y) e))
last_dropped (z ∷ zs) [] x e = absurd (let n : suc (length (zs ++ x ∷ [])) ≡ 0 = ap length e in omega (arith, n))
last_dropped (z ∷ zs) (y ∷ ys) x e = last_dropped zs ys x (ap (drop 1) e)

pub sum_le : {X : Type 0} (f h : X → ℕ) (xs : List X) → All (λ x. f x ≤ h x) xs → sum_by f xs ≤ sum_by h xs
sum_le f h [] all = omega arith
sum_le f h (x ∷ xs) all = omega (arith, sum_by-cons f x xs, sum_by-cons h x xs, All-head (λ x. f x ≤ h x) x xs all, sum_le f h xs (All-tail (λ x. f x ≤ h x) x xs all))

pub sum_popped : {X : Type 0} (f : X → ℕ) (xs ys : List X) (x : X) → ys ≡ xs ++ x ∷ [] → sum_by f ys ≡ sum_by f xs + f x
sum_popped f xs ys x more =
    let sums : sum_by f ys ≡ sum_by f xs + sum_by f (x ∷ []) = ap (sum_by f) more ∙ sum_by-append f xs (x ∷ []) in
    omega (arith, sums)

pub take_whole : {X : Type 0} (xs : List X) (n : ℕ) → length xs ≤ n → take n xs ≡ xs
take_whole [] zero le = refl
take_whole [] (suc n) le = refl
take_whole (x ∷ xs) zero le = absurd (omega arith)
take_whole (x ∷ xs) (suc n) le = ap (λ l. x ∷ l) (take_whole xs n (omega arith))

module _ {B : Type 0} where
  -- one deque more is emptied
  pub more_emptied : (ow od l0 l l' tw td : List B) → IsPermutation (od ++ l0) (l ++ td) → IsPermutation (ow ++ l) (l' ++ tw) → IsPermutation ((ow ++ od) ++ l0) (l' ++ (tw ++ td))
  more_emptied ow od l0 l l' tw td h p =
      let a : IsPermutation ((ow ++ od) ++ l0) ((ow ++ l) ++ td) =
      subst (λ (x : List B). IsPermutation x ((ow ++ l) ++ td)) (sym (append_assoc ow od l0)) (subst (λ (x : List B). IsPermutation (ow ++ (od ++ l0)) x) (sym (append_assoc ow l td)) (IsPermutation-append_right ow _ _ h)) in
      let b : IsPermutation ((ow ++ l) ++ td) (l' ++ (tw ++ td)) = subst (λ (x : List B). IsPermutation ((ow ++ l) ++ td) x) (append_assoc l' tw td) (IsPermutation-append_left td _ _ p) in
      IsPermutation-trans _ _ _ a b

-- the last of a list that is the first part of another
pub prefix_popped : {X : Type 0} (xs ys zs : List X) (x : X) → ys ≡ xs ++ x ∷ [] → ys ≡ take (length ys) zs → (xs ≡ take (length xs) zs) × (drop (length xs) zs ≡ x ∷ drop (length ys) zs)
prefix_popped xs ys zs x more e =
    let len : length ys ≡ suc (length xs) = omega (arith, ap length more, length-append xs (x ∷ [])) in
    let e' : xs ++ x ∷ [] ≡ take (suc (length xs)) zs = sym more ∙ e ∙ ap (λ n. take n zs) len in
    ((last_taken xs zs x e').0, last_dropped xs zs x e' ∙ ap (λ n. x ∷ drop n zs) (sym len))

-- what the seats had is now with their workers, or their rows
pub moved_on : {X Y Z : Type 0} (f : X → Z) (h : Y → Z) (start : List Z) (xs ys : List X) (x : X) (us vs : List Y) (y : Y) → ys ≡ xs ++ x ∷ [] → vs ≡ us ++ y ∷ [] → f x ≡ h y
    → start ≡ map f ys ++ map h (reverse us) → start ≡ map f xs ++ map h (reverse vs)
moved_on f h start xs ys x us vs y more more' is e =
    let a : map f ys ≡ map f xs ++ f x ∷ [] = ap (map f) more ∙ map-append f xs (x ∷ []) in
    let b : reverse vs ≡ y ∷ reverse us = ap reverse more' ∙ reverse-append us (y ∷ []) in
    e ∙ ap (λ l. l ++ map h (reverse us)) a ∙ append_assoc (map f xs) (f x ∷ []) (map h (reverse us)) ∙ ap (λ z. map f xs ++ (z ∷ map h (reverse us))) is ∙ sym (ap (λ l. map f xs ++ map h l) b)

-- the same for the deques, which stand in a list of their own
pub deque_moved : {Y Z : Type 0} (h : Y → Z) (ds : List Z) (us vs : List Y) (y : Y) (n m : ℕ) → vs ≡ us ++ y ∷ [] → n ≡ m + 1 → m < length ds → get_or ds m (h y) ≡ h y
    → ds ≡ take n ds ++ map h (reverse us) → ds ≡ take m ds ++ map h (reverse vs)
deque_moved h ds us vs y n m more next lt is e =
    let a : take n ds ≡ take m ds ++ h y ∷ [] = ap (λ k. take k ds) next ∙ take_snoc ds m (h y) lt ∙ ap (λ z. take m ds ++ z ∷ []) is in
    let b : reverse vs ≡ y ∷ reverse us = ap reverse more ∙ reverse-append us (y ∷ []) in
    e ∙ ap (λ l. l ++ map h (reverse us)) a ∙ append_assoc (take m ds) (h y ∷ []) (map h (reverse us)) ∙ sym (ap (λ l. take m ds ++ map h l) b)
