-- Terms that are added one after the other.
use Rattle.std.proofs.Common.{◌≡◌, ℕ, suc, zero, ◌+◌, ◌<◌, ◌≤◌, ◌-◌, ℤ, ◌+ℤ◌, Bool, true, false, ◌&&◌, List, [], ◌∷◌, ◌++◌, map, flat_map, length, drop, Ok, Err, Some, None, get_or, MatchBool, subst, if◌then◌else◌, refl, sym, ap, ◌∙◌, drop-cons, drop_of_length-le, arith}
use Rattle.std.specs.List.{list_all}
use Rattle.std.specs.Global.{Vec}
use Rattle.poly_text.specs.declared.causes.Cause.{Cause}
use Rattle.poly_text.specs.declared.causes.Cause.TheVariants.{Bound}
use Rattle.poly_text.specs.Maps.{Monomial, coefficient, plus_term, times, products, signed}
use Rattle.poly_text.specs.Bounds.{Verdict, ◌>>=◌, fits, with_term, collected, bounded, is_small, added, multiplied, raised}
use Rattle.poly_text.specs.Collecting.{plain, Does}

abbrev bad : Verdict (List Monomial)
bad = Err Bound

abbrev pub good : List Monomial → Verdict (List Monomial)
good f = Ok f

-- ---- one term, by its three tests

term_yes : (a b c : Bool) (f : List Monomial) → a ≡ true → b ≡ true → c ≡ true → (if a && (b && c) then good f else bad) ≡ good f
term_yes a b c f p q r = rw (p, q, r) refl

pub no_exponents : (f : List Monomial) (t : Monomial) → list_all fits t.0 ≡ false → with_term f t ≡ Err Bound
unfolding with_term
no_exponents f t h = rw h refl

pub no_number : (f : List Monomial) (t : Monomial) → list_all fits t.0 ≡ true → fits t.1 ≡ false → with_term f t ≡ Err Bound
unfolding with_term
no_number f t h e = rw (h, e) refl

-- the answer for the sum decides where exponents and number fit
pub sum_decides : (done : Bool) (f g : List Monomial) (xs : List ℤ) (z : ℤ) → list_all fits xs ≡ true → fits z ≡ true
    → MatchBool done ((fits (coefficient xs f +ℤ z) ≡ true) × (g ≡ plus_term f (xs, z))) (fits (coefficient xs f +ℤ z) ≡ false) → Does done (with_term f (xs, z)) g
unfolding with_term
sum_decides true f g xs z h e a = term_yes (list_all fits xs) (fits z) (fits (coefficient xs f +ℤ z)) (plus_term f (xs, z)) h e a.0 ∙ ap good (sym a.1)
sum_decides false f g xs z h e a = rw (h, e, a) refl

-- ---- lists of terms
append_after : (v : Verdict (List Monomial)) (ts us : List Monomial) → ((g : List Monomial) → collected g (ts ++ us) ≡ (collected g ts >>= λ h. collected h us))
    → (v >>= λ g. collected g (ts ++ us)) ≡ ((v >>= λ g. collected g ts) >>= λ g. collected g us)
append_after (Ok g) ts us r = r g
append_after (Err c) ts us r = refl

pub collected_append : (ts us : List Monomial) (f : List Monomial) → collected f (ts ++ us) ≡ (collected f ts >>= λ g. collected g us)
unfolding collected
collected_append [] us f = refl
collected_append (t ∷ ts) us f = append_after (with_term f t) ts us (collected_append ts us)

-- ---- a loop over stored terms, of which each gives a row of terms

module _ {A : Type 0} (row : A → List Monomial) (xs : List A) (k : ℕ) (f : List Monomial) (whole : Verdict (List Monomial)) where
  rest_read : (x : A) → x ≡ get_or xs k x → k < length xs → flat_map row (drop k xs) ≡ row x ++ flat_map row (drop (k + 1) xs)
  rest_read x e h =
      let next : k + 1 ≡ suc k = omega arith in
      ap (flat_map row) (drop-cons xs k x h) ∙ ap (λ (j : ℕ). row (get_or xs k x) ++ flat_map row (drop j xs)) (sym next) ∙ ap (λ (y : A). row y ++ flat_map row (drop (k + 1) xs)) (sym e)

  split_row : (x : A) → x ≡ get_or xs k x → k < length xs → collected f (flat_map row (drop k xs)) ≡ (collected f (row x) >>= λ u. collected u (flat_map row (drop (k + 1) xs)))
  split_row x e h = ap (collected f) (rest_read x e h) ∙ collected_append (row x) (flat_map row (drop (k + 1) xs)) f

  pub row_added : (g : List Monomial) (x : A) → x ≡ get_or xs k x → k < length xs → collected f (row x) ≡ Ok g → collected f (flat_map row (drop k xs)) ≡ whole
      → collected g (flat_map row (drop (k + 1) xs)) ≡ whole
  row_added g x is h e so_far =
      let one = ap (λ (v : Verdict (List Monomial)). v >>= λ u. collected u (flat_map row (drop (k + 1) xs))) e in
      sym (split_row x is h ∙ one) ∙ so_far

  pub row_fails : (x : A) → x ≡ get_or xs k x → k < length xs → collected f (row x) ≡ Err Bound → collected f (flat_map row (drop k xs)) ≡ whole → whole ≡ Err Bound
  row_fails x is h e so_far =
      let one = ap (λ (v : Verdict (List Monomial)). v >>= λ u. collected u (flat_map row (drop (k + 1) xs))) e in
      sym so_far ∙ split_row x is h ∙ one

  pub all_added : length xs ≤ k → collected f (flat_map row (drop k xs)) ≡ whole → whole ≡ Ok f
  unfolding collected
  all_added h so_far = sym so_far ∙ ap (λ (l : List A). collected f (flat_map row l)) (drop_of_length-le xs h)

-- a term as a row of one
one_more : (v : Verdict (List Monomial)) → (v >>= λ g. good g) ≡ v
one_more (Ok g) = refl
one_more (Err c) = refl

pub row_of_one : (f : List Monomial) (t : Monomial) → collected f (t ∷ []) ≡ with_term f t
unfolding collected
row_of_one f t = one_more (with_term f t)

-- ---- whole sums, products and powers

pub added_is : (minus : Bool) (f g h : List Monomial) → collected f (map (signed minus) g) ≡ Ok h → added minus f g ≡ bounded h
unfolding added
added_is minus f g h e = rw e refl

pub added_not : (minus : Bool) (f g : List Monomial) → collected f (map (signed minus) g) ≡ Err Bound → added minus f g ≡ Err Bound
unfolding added
added_not minus f g e = rw e refl

pub multiplied_is : (f g h : List Monomial) → collected [] (products f g) ≡ Ok h → multiplied f g ≡ bounded h
unfolding multiplied
multiplied_is f g h e = rw e refl

pub multiplied_not : (f g : List Monomial) → collected [] (products f g) ≡ Err Bound → multiplied f g ≡ Err Bound
unfolding multiplied
multiplied_not f g e = rw e refl

pub bounded_yes : (f : List Monomial) → is_small f ≡ true → bounded f ≡ Ok f
bounded_yes f h = rw h refl

pub bounded_no : (f : List Monomial) → is_small f ≡ false → bounded f ≡ Err Bound
bounded_no f h = rw h refl

pub power_more : (n : ℕ) (f g : List Monomial) (k : ℕ) → raised n f k ≡ Ok g → raised n f (suc k) ≡ multiplied g f
unfolding raised
power_more n f g k e = rw e refl

-- one number so often more
abbrev plus : ℕ → ℕ → ℕ
plus zero k = k
plus (suc more) k = suc (plus more k)

plus_is : (more k : ℕ) → plus more k ≡ more + k
plus_is zero k = omega arith
plus_is (suc more) k = let e = plus_is more k in omega (arith, e)

power_fails_after : (n : ℕ) (f : List Monomial) (c : Cause) (k more : ℕ) → raised n f k ≡ Err c → raised n f (plus more k) ≡ Err c
unfolding raised
power_fails_after n f c k zero e = e
power_fails_after n f c k (suc more) e = rw (power_fails_after n f c k more e) refl

pub power_fails : (n : ℕ) (f : List Monomial) (c : Cause) (k whole : ℕ) → k ≤ whole → raised n f k ≡ Err c → raised n f whole ≡ Err c
power_fails n f c k whole h e =
    let sum = plus_is (whole - k) k in
    let same : whole ≡ plus (whole - k) k = omega (arith, sum) in
    ap (raised n f) same ∙ power_fails_after n f c k (whole - k) e

-- the answer for the exponents and the number that were handed on
pub decides : (done : Bool) (f g : List Monomial) (xs ys : List ℤ) (z w : ℤ) → xs ≡ ys → z ≡ w → list_all fits ys ≡ true → fits w ≡ true
    → MatchBool done ((fits (coefficient xs f +ℤ z) ≡ true) × (g ≡ plus_term f (xs, z))) (fits (coefficient xs f +ℤ z) ≡ false) → Does done (with_term f (ys, w)) g
decides done f g xs ys z w p q h k a =
    let b = subst (λ (l : List ℤ). MatchBool done ((fits (coefficient l f +ℤ z) ≡ true) × (g ≡ plus_term f (l, z))) (fits (coefficient l f +ℤ z) ≡ false)) p a in
    let c = subst (λ (y : ℤ). MatchBool done ((fits (coefficient ys f +ℤ y) ≡ true) × (g ≡ plus_term f (ys, y))) (fits (coefficient ys f +ℤ y) ≡ false)) q b in
    sum_decides done f g ys w h k c

pub did : (done : Bool) (v : Verdict (List Monomial)) (g : List Monomial) → Does done v g → done ≡ true → v ≡ Ok g
did true v g h e = h
did false v g h e = absurd cc

pub did_not : (done : Bool) (v : Verdict (List Monomial)) (g : List Monomial) → Does done v g → done ≡ false → v ≡ Err Bound
did_not true v g h e = absurd cc
did_not false v g h e = h

rows_stored : (φ : Monomial → Monomial) (items : List (Vec ℤ × ℤ)) → flat_map (λ t. φ (plain t) ∷ []) items ≡ map φ (map plain items)
rows_stored φ [] = refl
rows_stored φ (t ∷ ts) = ap (λ (l : List Monomial). φ (plain t) ∷ l) (rows_stored φ ts)

-- the rows of stored terms
pub rows_plain : (φ : Monomial → Monomial) (items : List (Vec ℤ × ℤ)) (fs : List Monomial) → map plain items ≡ fs → flat_map (λ t. φ (plain t) ∷ []) items ≡ map φ fs
rows_plain φ items fs e = rows_stored φ items ∙ ap (map φ) e

-- what an option made by a test tells of the test
pub test_failed : {A : Type 0} (b : Bool) (x : A) → (if b then Some x else None) ≡ None → b ≡ false
test_failed true x e = absurd cc
test_failed false x e = refl

pub test_passed : {A : Type 0} (b : Bool) (x y : A) → (if b then Some x else None) ≡ Some y → (b ≡ true) × (x ≡ y)
test_passed true x y e = (refl, cc)
test_passed false x y e = absurd cc

products_stored : (items : List (Vec ℤ × ℤ)) (gs : List Monomial) → flat_map (λ s. map (times (plain s)) gs) items ≡ products (map plain items) gs
products_stored [] gs = refl
products_stored (s ∷ ss) gs = ap (λ (l : List Monomial). map (times (plain s)) gs ++ l) (products_stored ss gs)

pub rows_of_products : (items : List (Vec ℤ × ℤ)) (fs gs : List Monomial) → map plain items ≡ fs → flat_map (λ s. map (times (plain s)) gs) items ≡ products fs gs
rows_of_products items fs gs e = products_stored items gs ∙ ap (λ (l : List Monomial). products l gs) e
