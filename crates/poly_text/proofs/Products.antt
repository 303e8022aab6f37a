-- The coefficients of sums and products of terms.
use Rattle.std.proofs.Common.{◌≡◌, ℕ, suc, zero, ◌+◌, ℤ, pos, neg_ℤ, ◌+ℤ◌, ◌-ℤ◌, ◌*ℤ◌, ◌<ℤ◌, Bool, true, false, List, [], ◌∷◌, ◌++◌, map, length, Ok, Err, refl, sym, ap, ap₂, subst, ◌∙◌, int_cmp, int_eq, arith, if◌then◌else◌, is_eq}
use Rattle.std.proofs.lemmas.Int.{ints}
use Rattle.std.proofs.Math.IntN.{*ℤ_comm}
use Rattle.std.specs.List.{range_with_len}
use Rattle.std.specs.declared.cmp.Ordering.{Ordering}
use Rattle.std.specs.declared.cmp.Ordering.TheVariants.{Less, Equal, Greater}
use Rattle.std.specs.Ordering.{MatchOrdering, ordering_then}
use Rattle.std.specs.Cmp.{int_ranks, int_cmp_is}
use Rattle.wide_int.proofs.Ring.{mul_add_ℤ, mul_zero_ℤ, one_mul_ℤ}
use Rattle.int_vectors.specs.Vectors.{Each}
use Rattle.poly_text.specs.declared.causes.Cause.{Cause}
use Rattle.poly_text.specs.declared.causes.Cause.TheVariants.{Bound}
use Rattle.poly_text.specs.Maps.{Monomial, exponents_cmp, plus_term, signed, sum_of_exponents, times, products, exponents_of}
use Rattle.poly_text.specs.Bounds.{Verdict, ◌>>=◌, with_term, collected}
use Rattle.poly_text.specs.Values.{are_same, number_at, total_at}
use Rattle.poly_text.proofs.Lengths.{HaveLength}
use Rattle.poly_text.proofs.Totals.{IsMap, IsMore, one_more}
use Rattle.poly_text.proofs.TermSums.{good}

good_is : (f g : List Monomial) → good f ≡ good g → f ≡ g
good_is f g e = cc

pub if_ok : (b : Bool) (f g : List Monomial) (c : Cause) → (if b then good f else Err c) ≡ Ok g → (b ≡ true) × (f ≡ g)
if_ok true f g c e = (refl, good_is f g e)
if_ok false f g c e = absurd cc

pub bind_is : (v : Verdict (List Monomial)) (k : List Monomial → Verdict (List Monomial)) (g : List Monomial) → (v >>= k) ≡ Ok g → (f : List Monomial) × (v ≡ Ok f) × (k f ≡ Ok g)
bind_is (Ok f) k g e = (f, refl, e)
bind_is (Err c) k g e = absurd cc

-- ---- terms that are collected

pub record IsSum (f ts g : List Monomial) : Type 0 where
  pub is_map : IsMap g
  pub totals : (xs : List ℤ) → total_at xs g ≡ total_at xs f +ℤ total_at xs ts

pub collected_is : (ts f g : List Monomial) → IsMap f → collected f ts ≡ Ok g → IsSum f ts g
unfolding collected with_term total_at
collected_is [] f g m e =
    let same = good_is f g e in
    record { is_map = subst IsMap same m; totals = λ xs. let a = ap (λ (h : List Monomial). total_at xs h) same in omega (arith, ints, a) }
collected_is (t ∷ ts) f g m e =
    let b = bind_is (with_term f t) (λ u. collected u ts) g e in
    let s = if_ok _ (plus_term f t) b.0 Bound b.1 in
    let one : IsMore f t b.0 = subst (IsMore f t) s.1 (one_more f t m) in
    let rest = collected_is ts b.0 g one.is_map b.2 in
    record { is_map = rest.is_map; totals = λ xs. let p = one.totals xs in let q = rest.totals xs in omega (arith, ints, p, q) }

pub total_append : (xs : List ℤ) (f g : List Monomial) → total_at xs (f ++ g) ≡ total_at xs f +ℤ total_at xs g
unfolding total_at
total_append xs [] g = omega (arith, ints)
total_append xs (t ∷ ts) g = let a = total_append xs ts g in omega (arith, ints, a)

minus_first : (b : Bool) (w rest : ℤ) → (if b then neg_ℤ w else pos 0) +ℤ neg_ℤ rest ≡ neg_ℤ ((if b then w else pos 0) +ℤ rest)
minus_first true w rest = omega (arith, ints)
minus_first false w rest = omega (arith, ints)

pub total_signed : (xs : List ℤ) (minus : Bool) (f : List Monomial) → total_at xs (map (signed minus) f) ≡ (if minus then neg_ℤ (total_at xs f) else total_at xs f)
unfolding total_at
total_signed xs true [] = omega (arith, ints)
total_signed xs false [] = refl
total_signed xs true (t ∷ ts) = ap (λ (z : ℤ). (if are_same xs t.0 then neg_ℤ t.1 else pos 0) +ℤ z) (total_signed xs true ts) ∙ minus_first (are_same xs t.0) t.1 (total_at xs ts)
total_signed xs false (t ∷ ts) = ap (λ (z : ℤ). number_at xs t +ℤ z) (total_signed xs false ts)

-- ---- the exponents of a factor by those of the product

abbrev pub less_by : List ℤ → List ℤ → List ℤ
less_by [] ss = []
less_by (x ∷ xs) [] = []
less_by (x ∷ xs) (s ∷ ss) = (x -ℤ s) ∷ less_by xs ss

cmp_left : (x a b : ℤ) → int_cmp x (a +ℤ b) ≡ int_cmp (x -ℤ a) b
cmp_left x a b = sym (by (int_cmp (x -ℤ a) b) (int_ranks (x -ℤ a) b))
  where
    by : (r : Ordering) → MatchOrdering r ((x -ℤ a) <ℤ b) ((x -ℤ a) ≡ b) (b <ℤ (x -ℤ a)) → r ≡ int_cmp x (a +ℤ b)
    by Less m = int_cmp_is x (a +ℤ b) Less (omega (arith, ints, m))
    by Equal m = int_cmp_is x (a +ℤ b) Equal (omega (arith, ints, m))
    by Greater m = int_cmp_is x (a +ℤ b) Greater (omega (arith, ints, m))

order_left : (xs s t : List ℤ) → length xs ≡ length s → length s ≡ length t → exponents_cmp xs (sum_of_exponents s t) ≡ exponents_cmp (less_by xs s) t
order_left [] [] [] h e = refl
order_left (x ∷ xs) (a ∷ s) (b ∷ t) h e = ap₂ ordering_then (cmp_left x a b) (order_left xs s t (omega (arith, h)) (omega (arith, e)))
order_left [] [] (b ∷ t) h e = absurd (omega (arith, e))
order_left [] (a ∷ s) t h e = absurd (omega (arith, h))
order_left (x ∷ xs) [] t h e = absurd (omega (arith, h))
order_left (x ∷ xs) (a ∷ s) [] h e = absurd (omega (arith, e))

sum_turned : (s t : List ℤ) → length s ≡ length t → sum_of_exponents s t ≡ sum_of_exponents t s
sum_turned [] [] h = refl
sum_turned (a ∷ s) (b ∷ t) h = let c : a +ℤ b ≡ b +ℤ a = omega (arith, ints) in ap₂ (λ (z : ℤ) (zs : List ℤ). z ∷ zs) c (sum_turned s t (omega (arith, h)))
sum_turned [] (b ∷ t) h = absurd (omega (arith, h))
sum_turned (a ∷ s) [] h = absurd (omega (arith, h))

same_left : (n : ℕ) (xs s t : List ℤ) → length xs ≡ n → length s ≡ n → length t ≡ n → are_same xs (sum_of_exponents s t) ≡ are_same (less_by xs s) t
same_left n xs s t l h e = ap is_eq (order_left xs s t (l ∙ sym h) (h ∙ sym e))

same_right : (n : ℕ) (xs s t : List ℤ) → length xs ≡ n → length s ≡ n → length t ≡ n → are_same xs (sum_of_exponents s t) ≡ are_same (less_by xs t) s
same_right n xs s t l h e = ap (λ (ys : List ℤ). are_same xs ys) (sum_turned s t (h ∙ sym e)) ∙ same_left n xs t s l e h

pub length_less_by : (n : ℕ) (xs s : List ℤ) → length xs ≡ n → length s ≡ n → length (less_by xs s) ≡ n
length_less_by n [] s l h = l
length_less_by n (x ∷ xs) [] l h = absurd (omega (arith, l, h))
length_less_by zero (x ∷ xs) (a ∷ s) l h = absurd (omega (arith, l))
length_less_by (suc n) (x ∷ xs) (a ∷ s) l h = ap suc (length_less_by n xs s (omega (arith, l)) (omega (arith, h)))

-- ---- a product, by the terms of the left

scaled : (b c : Bool) (w v : ℤ) → b ≡ c → (if b then w *ℤ v else pos 0) ≡ w *ℤ (if c then v else pos 0)
scaled true true w v e = refl
scaled false false w v e = sym (mul_zero_ℤ w)
scaled true false w v e = absurd cc
scaled false true w v e = absurd cc

pub total_scaled : (n : ℕ) (xs : List ℤ) (s : Monomial) (g : List Monomial) → length xs ≡ n → length s.0 ≡ n → HaveLength n g → total_at xs (map (times s) g) ≡ s.1 *ℤ total_at (less_by xs s.0) g
unfolding total_at
total_scaled n xs s [] l h e = sym (mul_zero_ℤ s.1)
total_scaled n xs s (t ∷ g) l h e =
    ap₂ ◌+ℤ◌ (scaled (are_same xs (sum_of_exponents s.0 t.0)) (are_same (less_by xs s.0) t.0) s.1 t.1 (same_left n xs s.0 t.0 l h e.0)) (total_scaled n xs s g l h e.1)
    ∙ sym (mul_add_ℤ s.1 (number_at (less_by xs s.0) t) (total_at (less_by xs s.0) g))

unfoldable by_left : List ℤ → List Monomial → List Monomial → ℤ
by_left xs [] g = pos 0
by_left xs (s ∷ f) g = s.1 *ℤ total_at (less_by xs s.0) g +ℤ by_left xs f g

products_left : (n : ℕ) (xs : List ℤ) (f g : List Monomial) → length xs ≡ n → HaveLength n f → HaveLength n g → total_at xs (products f g) ≡ by_left xs f g
unfolding by_left total_at
products_left n xs [] g l h e = refl
products_left n xs (s ∷ f) g l h e = total_append xs (map (times s) g) (products f g) ∙ ap₂ ◌+ℤ◌ (total_scaled n xs s g l h.0 e) (products_left n xs f g l h.1 e)

-- the same coefficients at all lists of n exponents
abbrev pub Same : ℕ → List Monomial → List Monomial → Type 0
Same n f g = (xs : List ℤ) → length xs ≡ n → total_at xs f ≡ total_at xs g

left_same : (n : ℕ) (xs : List ℤ) (f g g2 : List Monomial) → length xs ≡ n → HaveLength n f → Same n g g2 → by_left xs f g ≡ by_left xs f g2
unfolding by_left
left_same n xs [] g g2 l h e = refl
left_same n xs (s ∷ f) g g2 l h e = ap₂ (λ (z w : ℤ). s.1 *ℤ z +ℤ w) (e (less_by xs s.0) (length_less_by n xs s.0 l h.0)) (left_same n xs f g g2 l h.1 e)

-- ---- a product, by the terms of the right

unfoldable by_right : List ℤ → List Monomial → List Monomial → ℤ
by_right xs f [] = pos 0
by_right xs f (t ∷ g) = t.1 *ℤ total_at (less_by xs t.0) f +ℤ by_right xs f g

right_nil : (xs : List ℤ) (g : List Monomial) → by_right xs [] g ≡ pos 0
unfolding by_right total_at
right_nil xs [] = refl
right_nil xs (t ∷ g) = let a = right_nil xs g in let b = mul_zero_ℤ t.1 in omega (arith, ints, a, b)

turned : (b c : Bool) (w v : ℤ) → b ≡ c → (if b then w *ℤ v else pos 0) ≡ v *ℤ (if c then w else pos 0)
turned true true w v e = *ℤ_comm w v
turned false false w v e = sym (mul_zero_ℤ v)
turned true false w v e = absurd cc
turned false true w v e = absurd cc

mix : (a m t rest whole other both : ℤ) → a ≡ m → both ≡ m +ℤ t → rest +ℤ other ≡ whole → (a +ℤ rest) +ℤ (t +ℤ other) ≡ both +ℤ whole
mix a m t rest whole other both p q r = omega (arith, ints, p, q, r)

row_right : (n : ℕ) (xs : List ℤ) (s : Monomial) (f g : List Monomial) → length xs ≡ n → length s.0 ≡ n → HaveLength n g → total_at xs (map (times s) g) +ℤ by_right xs f g ≡ by_right xs (s ∷ f) g
unfolding by_right total_at
row_right n xs s f [] l h e = omega (arith, ints)
row_right n xs s f (t ∷ g) l h e =
    mix (number_at xs (times s t)) (t.1 *ℤ number_at (less_by xs t.0) s) (t.1 *ℤ total_at (less_by xs t.0) f) (total_at xs (map (times s) g)) (by_right xs (s ∷ f) g) (by_right xs f g) (t.1 *ℤ (number_at (less_by xs t.0) s +ℤ total_at (less_by xs t.0) f))
    (turned (are_same xs (sum_of_exponents s.0 t.0)) (are_same (less_by xs t.0) s.0) s.1 t.1 (same_right n xs s.0 t.0 l h e.0))
    (mul_add_ℤ t.1 (number_at (less_by xs t.0) s) (total_at (less_by xs t.0) f))
    (row_right n xs s f g l h e.1)

products_right : (n : ℕ) (xs : List ℤ) (f g : List Monomial) → length xs ≡ n → HaveLength n f → HaveLength n g → total_at xs (products f g) ≡ by_right xs f g
unfolding total_at
products_right n xs [] g l h e = sym (right_nil xs g)
products_right n xs (s ∷ f) g l h e =
    total_append xs (map (times s) g) (products f g) ∙ ap (λ (z : ℤ). total_at xs (map (times s) g) +ℤ z) (products_right n xs f g l h.1 e) ∙ row_right n xs s f g l h.0 e

right_same : (n : ℕ) (xs : List ℤ) (f f2 g : List Monomial) → length xs ≡ n → HaveLength n g → Same n f f2 → by_right xs f g ≡ by_right xs f2 g
unfolding by_right
right_same n xs f f2 [] l h e = refl
right_same n xs f f2 (t ∷ g) l h e = ap₂ (λ (z w : ℤ). t.1 *ℤ z +ℤ w) (e (less_by xs t.0) (length_less_by n xs t.0 l h.0)) (right_same n xs f f2 g l h.1 e)

-- products of sums with the same coefficients have the same coefficients
pub products_same : (n : ℕ) (f f2 g g2 : List Monomial) → HaveLength n f → HaveLength n f2 → HaveLength n g → HaveLength n g2 → Same n f f2 → Same n g g2 → Same n (products f g) (products f2 g2)
products_same n f f2 g g2 lf lf2 lg lg2 p q xs l =
    products_left n xs f g l lf lg ∙ left_same n xs f g g2 l lf q ∙ sym (products_left n xs f g2 l lf lg2)
    ∙ products_right n xs f g2 l lf lg2 ∙ right_same n xs f f2 g2 l lg2 p ∙ sym (products_right n xs f2 g2 l lf2 lg2)

-- ---- the product with 1

no_less : (xs s : List ℤ) → length xs ≡ length s → Each s (λ z. z ≡ pos 0) → less_by xs s ≡ xs
no_less [] s h e = refl
no_less (x ∷ xs) [] h e = absurd (omega (arith, h))
no_less (x ∷ xs) (z ∷ s) h e = let a = e.0 in let c : x -ℤ z ≡ x = omega (arith, ints, a) in ap₂ (λ (y : ℤ) (ys : List ℤ). y ∷ ys) c (no_less xs s (omega (arith, h)) e.1)

zero_or : (b : Bool) → (if b then pos 0 else pos 0) ≡ pos 0
zero_or true = refl
zero_or false = refl

zeros : (js : List ℕ) → Each (map (λ (j : ℕ). if int_eq (pos 0) (pos (j + 1)) then pos 0 else pos 0) js) (λ z. z ≡ pos 0)
zeros [] = tt
zeros (j ∷ js) = (zero_or (int_eq (pos 0) (pos (j + 1))), zeros js)

pub one_times : (n : ℕ) (g : List Monomial) → length (exponents_of n (pos 0) (pos 0)) ≡ n → HaveLength n g → Same n (products ((exponents_of n (pos 0) (pos 0), pos 1) ∷ []) g) g
unfolding total_at
one_times n g h e xs l =
    let row = total_append xs (map (times (exponents_of n (pos 0) (pos 0), pos 1)) g) [] in
    let scale = total_scaled n xs (exponents_of n (pos 0) (pos 0), pos 1) g l h e in
    let same = ap (λ (ys : List ℤ). total_at ys g) (no_less xs (exponents_of n (pos 0) (pos 0)) (l ∙ sym h) (zeros (range_with_len 0 n))) in
    let unit = one_mul_ℤ (total_at (less_by xs (exponents_of n (pos 0) (pos 0))) g) in
    omega (arith, ints, row, scale, same, unit)
