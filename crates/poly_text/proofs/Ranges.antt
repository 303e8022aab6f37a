-- A number out of its limits is what makes a polynomial mean `Range`.
use Rattle.std.proofs.Common.{◌≡◌, ℕ, suc, zero, ℤ, pos, neg_ℤ, Bool, true, false, ◌&&◌, List, [], ◌∷◌, map, Option, Some, None, Ok, Err, refl, arith, if◌then◌else◌}
use Rattle.std.specs.Prelude.{int_le}
use Rattle.std.proofs.lemmas.Int.{ints}
use Rattle.support_text.proofs.Numbers.{both_are, int_le_true}
use Rattle.support_text.proofs.Kept.{int_le_is}
use Rattle.poly_text.specs.declared.causes.Cause.TheVariants.{Range, Bound}
use Rattle.poly_text.specs.declared.reading.Base.TheVariants.{Named, Valued}
use Rattle.poly_text.specs.Maps.{Monomial, plus_term, signed, products, constant, power_of_variable}
use Rattle.poly_text.specs.Bounds.{Verdict, ◌>>=◌, with_term, collected, is_small, bounded, added, multiplied, raised}
use Rattle.poly_text.specs.Trees.{Polynomial, Term, Factor, first, more, one_factor, product, plain, power, digits, variable, enclosed, both, number, variable_power, exponent, base_power, within, minus_of, meaning, meaning_term, meaning_factor}
use Rattle.poly_text.proofs.SmallValues.{left_true, right_true}
use Rattle.poly_text.specs.Ranges.{IsNumber, IsVariable, IsBetween, InRange, TermInRange, FactorInRange}

-- P holds, or the numbers are out of their limits
abbrev pub Ranged : Type 0 → Verdict (List Monomial) → Type 0
Ranged P (Ok f) = P
Ranged P (Err Bound) = P
Ranged P (Err Range) = ¬ P

ranged_as : (P Q : Type 0) (v : Verdict (List Monomial)) → (P → Q) → (Q → P) → Ranged P v → Ranged Q v
ranged_as P Q (Ok f) to from h = to h
ranged_as P Q (Err Bound) to from h = to h
ranged_as P Q (Err Range) to from h = λ q. h (from q)

-- ---- sums, products and powers are never out of range

abbrev Sized : Verdict (List Monomial) → Type 0
Sized (Ok f) = Unit {0}
Sized (Err Bound) = Unit {0}
Sized (Err Range) = ⊥

sized_if : (b : Bool) (f : List Monomial) → Sized (if b then Ok f else Err Bound)
sized_if true f = tt
sized_if false f = tt

sized_bind : (v : Verdict (List Monomial)) (k : List Monomial → Verdict (List Monomial)) → Sized v → ((f : List Monomial) → Sized (k f)) → Sized (v >>= k)
sized_bind (Ok f) k p h = h f
sized_bind (Err Bound) k p h = tt
sized_bind (Err Range) k p h = p

sized_collected : (ts f : List Monomial) → Sized (collected f ts)
unfolding collected with_term
sized_collected [] f = tt
sized_collected (t ∷ ts) f = sized_bind (with_term f t) (λ g. collected g ts) (sized_if _ (plus_term f t)) (λ g. sized_collected ts g)

sized_added : (minus : Bool) (f g : List Monomial) → Sized (added minus f g)
unfolding added
sized_added minus f g = sized_bind (collected f (map (signed minus) g)) bounded (sized_collected (map (signed minus) g) f) (λ h. sized_if (is_small h) h)

sized_multiplied : (f g : List Monomial) → Sized (multiplied f g)
unfolding multiplied
sized_multiplied f g = sized_bind (collected [] (products f g)) bounded (sized_collected (products f g) []) (λ h. sized_if (is_small h) h)

sized_raised : (n : ℕ) (f : List Monomial) (k : ℕ) → Sized (raised n f k)
unfolding raised
sized_raised n f zero = tt
sized_raised n f (suc k) = sized_bind (raised n f k) (λ g. multiplied g f) (sized_raised n f k) (λ g. sized_multiplied g f)

ranged_sized : (P : Type 0) (v : Verdict (List Monomial)) → Sized v → P → Ranged P v
ranged_sized P (Ok f) s p = p
ranged_sized P (Err Bound) s p = p
ranged_sized P (Err Range) s p = absurd s

ranged_both : (P Q : Type 0) (op : List Monomial → List Monomial → Verdict (List Monomial)) (v w : Verdict (List Monomial)) → ((f g : List Monomial) → Sized (op f g)) → Ranged P v → Ranged Q w → Ranged (P × Q) (both op v w)
ranged_both P Q op (Err Range) w h p q = λ b. p b.0
ranged_both P Q op (Err Bound) (Err Range) h p q = λ b. q b.1
ranged_both P Q op (Err Bound) (Err Bound) h p q = (p, q)
ranged_both P Q op (Err Bound) (Ok g) h p q = (p, q)
ranged_both P Q op (Ok f) (Err Range) h p q = λ b. q b.1
ranged_both P Q op (Ok f) (Err Bound) h p q = (p, q)
ranged_both P Q op (Ok f) (Ok g) h p q = ranged_sized (P × Q) (op f g) (h f g) (p, q)

-- ---- tests
ranged_test : (P : Type 0) (b : Bool) (v : Verdict (List Monomial)) → (b ≡ true → Ranged P v) → (P → b ≡ true) → Ranged P (if b then v else Err Range)
ranged_test P true v good test = good refl
ranged_test P false v good test = λ p. let e = test p in absurd cc

ranged_number : (n : ℕ) (z : Option ℤ) → Ranged (IsNumber z) (number n z)
ranged_number n None = λ h. h
ranged_number n (Some z) = tt

ranged_variable : (n : ℕ) (i : Option ℤ) (k : ℤ) → Ranged (IsVariable n i × IsBetween (neg_ℤ (pos 1000000)) (pos 1000000) (Some k)) (variable_power n i k)
ranged_variable n None k = λ h. h.0
ranged_variable n (Some i) k =
    let a = int_le (pos 1) i in
    let b = int_le i (pos n) in
    let c = int_le (neg_ℤ (pos 1000000)) k in
    let d = int_le k (pos 1000000) in
    ranged_test (IsVariable n (Some i) × IsBetween (neg_ℤ (pos 1000000)) (pos 1000000) (Some k)) ((a && b) && (c && d)) (Ok (power_of_variable n i k))
    (λ h. let p = left_true (a && b) (c && d) h in let q = right_true (a && b) (c && d) h in
    ((int_le_is (pos 1) i (left_true a b p), int_le_is i (pos n) (right_true a b p)), (int_le_is (neg_ℤ (pos 1000000)) k (left_true c d q), int_le_is k (pos 1000000) (right_true c d q))))
    (λ h. both_are (a && b) (c && d) (both_are a b (int_le_true (pos 1) i h.0.0) (int_le_true i (pos n) h.0.1)) (both_are c d (int_le_true (neg_ℤ (pos 1000000)) k h.1.0) (int_le_true k (pos 1000000) h.1.1)))

ranged_plain : (n : ℕ) (i : Option ℤ) → Ranged (IsVariable n i) (variable_power n i (pos 1))
ranged_plain n i =
    ranged_as (IsVariable n i × IsBetween (neg_ℤ (pos 1000000)) (pos 1000000) (Some (pos 1))) (IsVariable n i) (variable_power n i (pos 1)) (λ h. h.0) (λ h. (h, (omega (arith, ints), omega (arith, ints)))) (ranged_variable n i (pos 1))

ranged_named : (n : ℕ) (i k : Option ℤ) → Ranged (IsVariable n i × IsBetween (neg_ℤ (pos 1000000)) (pos 1000000) k) (base_power n (Named i) k)
ranged_named n i None = λ h. h.1
ranged_named n i (Some k) = ranged_variable n i k

ranged_bind : (P Q : Type 0) (v : Verdict (List Monomial)) (k : List Monomial → Verdict (List Monomial)) → Q → Ranged P v → ((f : List Monomial) → Sized (k f)) → Ranged (P × Q) (v >>= k)
ranged_bind P Q (Ok f) k q p h = ranged_sized (P × Q) (k f) (h f) (p, q)
ranged_bind P Q (Err Bound) k q p h = (p, q)
ranged_bind P Q (Err Range) k q p h = λ b. p b.0

ranged_valued : (P : Type 0) (n : ℕ) (v : Verdict (List Monomial)) (k : Option ℤ) → Ranged P v → Ranged (P × IsBetween (pos 0) (pos 16) k) (base_power n (Valued v) k)
ranged_valued P n v None p = λ h. h.1
ranged_valued P n v (Some k) p =
    let a = int_le (pos 0) k in
    let b = int_le k (pos 16) in
    ranged_test (P × IsBetween (pos 0) (pos 16) (Some k)) (a && b) _
    (λ h. ranged_bind P (IsBetween (pos 0) (pos 16) (Some k)) v _ (int_le_is (pos 0) k (left_true a b h), int_le_is k (pos 16) (right_true a b h)) p (λ f. sized_raised n f _))
    (λ h. both_are a b (int_le_true (pos 0) k h.1.0) (int_le_true k (pos 16) h.1.1))

within_if : (P : Type 0) (b : Bool) (f : List Monomial) → P → Ranged P (if b then Ok f else Err Bound)
within_if P true f p = p
within_if P false f p = p

ranged_within : (P : Type 0) (depth : ℕ) (v : Verdict (List Monomial)) → Ranged P v → Ranged P (within depth v)
ranged_within P depth (Ok f) p = within_if P _ f p
ranged_within P depth (Err Bound) p = p
ranged_within P depth (Err Range) p = p

mutual
  unfolding meaning InRange

  pub ranged_polynomial : (p : Polynomial) (n depth : ℕ) → Ranged (InRange n p) (meaning n depth p)
  ranged_polynomial (first sign t) n depth =
      ranged_as (Unit {0} × TermInRange n t) (TermInRange n t) (both (added (minus_of sign)) (Ok []) (meaning_term n depth t)) (λ h. h.1) (λ h. (tt, h))
      (ranged_both (Unit {0}) (TermInRange n t) (added (minus_of sign)) (Ok []) (meaning_term n depth t) (sized_added (minus_of sign)) tt (ranged_term t n depth))
  ranged_polynomial (more p minus t) n depth = ranged_both (InRange n p) (TermInRange n t) (added minus) (meaning n depth p) (meaning_term n depth t) (sized_added minus) (ranged_polynomial p n depth) (ranged_term t n depth)

  ranged_term : (t : Term) (n depth : ℕ) → Ranged (TermInRange n t) (meaning_term n depth t)
  ranged_term (one_factor f) n depth =
      ranged_as (Unit {0} × FactorInRange n f) (FactorInRange n f) (both multiplied (Ok (constant n (pos 1))) (meaning_factor n depth f)) (λ h. h.1) (λ h. (tt, h))
      (ranged_both (Unit {0}) (FactorInRange n f) multiplied (Ok (constant n (pos 1))) (meaning_factor n depth f) sized_multiplied tt (ranged_factor f n depth))
  ranged_term (product t f) n depth = ranged_both (TermInRange n t) (FactorInRange n f) multiplied (meaning_term n depth t) (meaning_factor n depth f) sized_multiplied (ranged_term t n depth) (ranged_factor f n depth)

  ranged_factor : (f : Factor) (n depth : ℕ) → Ranged (FactorInRange n f) (meaning_factor n depth f)
  ranged_factor (plain (digits z)) n depth = ranged_number n z
  ranged_factor (plain (variable i)) n depth = ranged_plain n i
  ranged_factor (plain (enclosed p)) n depth = ranged_within (InRange n p) (suc depth) (meaning n (suc depth) p) (ranged_polynomial p n (suc depth))
  ranged_factor (power (digits z) minus y) n depth = ranged_valued (IsNumber z) n (number n z) (exponent minus y) (ranged_number n z)
  ranged_factor (power (variable i) minus y) n depth = ranged_named n i (exponent minus y)
  ranged_factor (power (enclosed p) minus y) n depth =
      ranged_valued (InRange n p) n (within (suc depth) (meaning n (suc depth) p)) (exponent minus y) (ranged_within (InRange n p) (suc depth) (meaning n (suc depth) p) (ranged_polynomial p n (suc depth)))
