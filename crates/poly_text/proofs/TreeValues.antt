-- What is worked out of a polynomial has the coefficients of its value.
use Rattle.std.proofs.Common.{◌≡◌, ℕ, suc, zero, ℤ, pos, neg_ℤ, ◌+ℤ◌, Bool, true, false, List, [], ◌∷◌, ◌++◌, map, length, Option, Some, None, Ok, Err, refl, sym, ap, ap₂, subst, ◌∙◌, arith, if◌then◌else◌}
use Rattle.std.proofs.lemmas.Int.{ints}
use Rattle.poly_text.specs.declared.causes.Cause.{Cause}
use Rattle.poly_text.specs.declared.causes.Cause.TheVariants.{Range, Bound}
use Rattle.poly_text.specs.declared.reading.Base.TheVariants.{Named, Valued}
use Rattle.poly_text.specs.Maps.{Monomial, plus_term, signed, products, exponents_of, constant, power_of_variable}
use Rattle.poly_text.specs.Bounds.{Verdict, ◌>>=◌, collected, is_small, bounded, added, multiplied, raised}
use Rattle.poly_text.specs.Trees.{Polynomial, Term, Factor, first, more, one_factor, product, plain, power, digits, variable, enclosed, both, number, variable_power, exponent, base_power, within, minus_of, meaning, meaning_term, meaning_factor}
use Rattle.poly_text.specs.Values.{total_at, number_value, variable_value, times_itself, whole_power, value, value_of_term, value_of_factor}
use Rattle.poly_text.proofs.Lengths.{HaveLength, Holds, lengths_signed, lengths_append, lengths_products, length_exponents, lengths_added, lengths_multiplied, lengths_more}
use Rattle.poly_text.proofs.Totals.{IsMap, one_more, nil_is_map}
use Rattle.poly_text.proofs.Products.{if_ok, bind_is, collected_is, total_append, total_signed, Same, products_same, one_times}

-- a map with the coefficients of a value
pub record HasValue (n : ℕ) (v f : List Monomial) : Type 0 where
  pub is_map : IsMap f
  pub long : HaveLength n f
  pub terms_long : HaveLength n v
  pub same : Same n f v

abbrev pub Means : ℕ → List Monomial → Verdict (List Monomial) → Type 0
Means n v (Ok f) = HasValue n v f
Means n v (Err c) = Unit {0}

by_ok : (n : ℕ) (v : List Monomial) (w : Verdict (List Monomial)) → ((f : List Monomial) → w ≡ Ok f → HasValue n v f) → Means n v w
by_ok n v (Ok f) h = h f refl
by_ok n v (Err c) h = tt

bounded_is : (w : Verdict (List Monomial)) (h : List Monomial) → (w >>= bounded) ≡ Ok h → w ≡ Ok h
bounded_is w h e =
    let b = bind_is w bounded h e in
    let s = if_ok (is_small b.0) b.0 h Bound b.2 in
    b.1 ∙ ap (λ (f : List Monomial). Ok f) s.1

zero_add : (z : ℤ) → pos 0 +ℤ z ≡ z
zero_add z = omega (arith, ints)

value_added : (n : ℕ) (minus : Bool) (u v f g h : List Monomial) → HasValue n u f → HasValue n v g → added minus f g ≡ Ok h → HasValue n (u ++ map (signed minus) v) h
unfolding added
value_added n minus u v f g h p q e =
    let s = collected_is (map (signed minus) g) f h p.is_map (bounded_is (collected f (map (signed minus) g)) h e) in
    record {
      is_map = s.is_map;
      long = subst (λ (w : Verdict (List Monomial)). Holds (HaveLength n) w) e (lengths_added n minus f g p.long q.long);
      terms_long = lengths_append n u (map (signed minus) v) p.terms_long (lengths_signed n minus v q.terms_long);
      same = λ xs l. s.totals xs
          ∙ ap₂ ◌+ℤ◌ (p.same xs l) (total_signed xs minus g ∙ ap (λ (z : ℤ). if minus then neg_ℤ z else z) (q.same xs l) ∙ sym (total_signed xs minus v))
          ∙ sym (total_append xs u (map (signed minus) v));
    }

value_multiplied : (n : ℕ) (u v f g h : List Monomial) → HasValue n u f → HasValue n v g → multiplied f g ≡ Ok h → HasValue n (products u v) h
unfolding multiplied total_at
value_multiplied n u v f g h p q e =
    let s = collected_is (products f g) [] h nil_is_map (bounded_is (collected [] (products f g)) h e) in
    record {
      is_map = s.is_map;
      long = subst (λ (w : Verdict (List Monomial)). Holds (HaveLength n) w) e (lengths_multiplied n f g p.long q.long);
      terms_long = lengths_products n u v p.terms_long q.terms_long;
      same = λ xs l. s.totals xs ∙ zero_add (total_at xs (products f g)) ∙ products_same n f u g v p.long p.terms_long q.long q.terms_long p.same q.same xs l;
    }

value_single : (n : ℕ) (ks : List ℤ) (z : ℤ) → length ks ≡ n → HasValue n ((ks, z) ∷ []) (plus_term [] (ks, z))
unfolding total_at
value_single n ks z h =
    let one = one_more [] (ks, z) nil_is_map in
    record { is_map = one.is_map; long = lengths_more n [] (ks, z) tt h; terms_long = (h, tt); same = λ xs l. let a = one.totals xs in omega (arith, ints, a) }

value_constant : (n : ℕ) (z : ℤ) → HasValue n (number_value n (Some z)) (constant n z)
value_constant n z = value_single n (exponents_of n (pos 0) (pos 0)) z (length_exponents n (pos 0) (pos 0))

-- a value with the same coefficients
value_same : (n : ℕ) (u v f : List Monomial) → HaveLength n v → Same n u v → HasValue n u f → HasValue n v f
value_same n u v f h s p = record { is_map = p.is_map; long = p.long; terms_long = h; same = λ xs l. p.same xs l ∙ s xs l }

-- ---- what is worked out

means_bind : (n : ℕ) (u v : List Monomial) (w : Verdict (List Monomial)) (k : List Monomial → Verdict (List Monomial)) → Means n u w → ((f : List Monomial) → HasValue n u f → Means n v (k f)) → Means n v (w >>= k)
means_bind n u v (Ok f) k p h = h f p
means_bind n u v (Err c) k p h = tt

means_if : (n : ℕ) (v : List Monomial) (b : Bool) (w : Verdict (List Monomial)) (c : Cause) → Means n v w → Means n v (if b then w else Err c)
means_if n v true w c p = p
means_if n v false w c p = tt

means_both : (n : ℕ) (u v r : List Monomial) (op : List Monomial → List Monomial → Verdict (List Monomial)) (a b : Verdict (List Monomial))
    → ((f g : List Monomial) → HasValue n u f → HasValue n v g → Means n r (op f g)) → Means n u a → Means n v b → Means n r (both op a b)
means_both n u v r op (Ok f) (Ok g) h p q = h f g p q
means_both n u v r op (Ok f) (Err c) h p q = tt
means_both n u v r op (Err Range) b h p q = tt
means_both n u v r op (Err Bound) (Ok g) h p q = tt
means_both n u v r op (Err Bound) (Err c) h p q = tt

means_added : (n : ℕ) (minus : Bool) (u v f g : List Monomial) → HasValue n u f → HasValue n v g → Means n (u ++ map (signed minus) v) (added minus f g)
means_added n minus u v f g p q = by_ok n (u ++ map (signed minus) v) (added minus f g) (λ h e. value_added n minus u v f g h p q e)

means_multiplied : (n : ℕ) (u v f g : List Monomial) → HasValue n u f → HasValue n v g → Means n (products u v) (multiplied f g)
means_multiplied n u v f g p q = by_ok n (products u v) (multiplied f g) (λ h e. value_multiplied n u v f g h p q e)

means_once : (n : ℕ) (v f g : List Monomial) → HasValue n (number_value n (Some (pos 1))) f → HasValue n v g → Means n v (multiplied f g)
means_once n v f g p q =
    by_ok n v (multiplied f g)
    (λ h e. value_same n (products (number_value n (Some (pos 1))) v) v h q.terms_long (one_times n v (length_exponents n (pos 0) (pos 0)) q.terms_long) (value_multiplied n (number_value n (Some (pos 1))) v f g h p q e))

means_raised : (n : ℕ) (v f : List Monomial) (k : ℕ) → HasValue n v f → Means n (times_itself n v k) (raised n f k)
unfolding times_itself raised
means_raised n v f zero p = value_constant n (pos 1)
means_raised n v f (suc k) p =
    means_bind n (times_itself n v k) (products (times_itself n v k) v) (raised n f k) (λ g. multiplied g f) (means_raised n v f k p) (λ g q. means_multiplied n (times_itself n v k) v g f q p)

means_number : (n : ℕ) (z : Option ℤ) → Means n (number_value n z) (number n z)
means_number n None = tt
means_number n (Some z) = value_constant n z

means_variable : (n : ℕ) (i : Option ℤ) (k : ℤ) → Means n (variable_value n i (Some k)) (variable_power n i k)
means_variable n None k = tt
means_variable n (Some i) k = means_if n (variable_value n (Some i) (Some k)) _ (Ok (power_of_variable n i k)) Range (value_single n (exponents_of n i k) (pos 1) (length_exponents n i k))

means_named : (n : ℕ) (i k : Option ℤ) → Means n (variable_value n i k) (base_power n (Named i) k)
means_named n i None = tt
means_named n i (Some k) = means_variable n i k

means_valued : (n : ℕ) (v : List Monomial) (w : Verdict (List Monomial)) (k : Option ℤ) → Means n v w → Means n (whole_power n v k) (base_power n (Valued w) k)
means_valued n v w None p = tt
means_valued n v w (Some k) p = means_if n (whole_power n v (Some k)) _ _ Range (means_bind n v (whole_power n v (Some k)) w _ p (λ f q. means_raised n v f _ q))

means_within : (n depth : ℕ) (v : List Monomial) (w : Verdict (List Monomial)) → Means n v w → Means n v (within depth w)
means_within n depth v (Ok f) p = means_if n v _ (Ok f) Bound p
means_within n depth v (Err c) p = tt

nil_value : (n : ℕ) → HasValue n [] []
nil_value n = record { is_map = nil_is_map; long = tt; terms_long = tt; same = λ xs l. refl }

mutual
  unfolding meaning value

  pub means_polynomial : (p : Polynomial) (n depth : ℕ) → Means n (value n p) (meaning n depth p)
  means_polynomial (first sign t) n depth =
      means_both n [] (value_of_term n t) (map (signed (minus_of sign)) (value_of_term n t)) (added (minus_of sign)) (Ok []) (meaning_term n depth t) (means_added n (minus_of sign) [] (value_of_term n t)) (nil_value n) (means_term t n depth)
  means_polynomial (more p minus t) n depth =
      means_both n (value n p) (value_of_term n t) (value n p ++ map (signed minus) (value_of_term n t)) (added minus) (meaning n depth p) (meaning_term n depth t) (means_added n minus (value n p) (value_of_term n t)) (means_polynomial p n depth) (means_term t n depth)

  means_term : (t : Term) (n depth : ℕ) → Means n (value_of_term n t) (meaning_term n depth t)
  means_term (one_factor f) n depth =
      means_both n (number_value n (Some (pos 1))) (value_of_factor n f) (value_of_factor n f) multiplied (Ok (constant n (pos 1))) (meaning_factor n depth f) (means_once n (value_of_factor n f)) (value_constant n (pos 1)) (means_factor f n depth)
  means_term (product t f) n depth =
      means_both n (value_of_term n t) (value_of_factor n f) (products (value_of_term n t) (value_of_factor n f)) multiplied (meaning_term n depth t) (meaning_factor n depth f) (means_multiplied n (value_of_term n t) (value_of_factor n f)) (means_term t n depth) (means_factor f n depth)

  means_factor : (f : Factor) (n depth : ℕ) → Means n (value_of_factor n f) (meaning_factor n depth f)
  means_factor (plain (digits z)) n depth = means_number n z
  means_factor (plain (variable i)) n depth = means_variable n i (pos 1)
  means_factor (plain (enclosed p)) n depth = means_within n (suc depth) (value n p) (meaning n (suc depth) p) (means_polynomial p n (suc depth))
  means_factor (power (digits z) minus y) n depth = means_valued n (number_value n z) (number n z) (exponent minus y) (means_number n z)
  means_factor (power (variable i) minus y) n depth = means_named n i (exponent minus y)
  means_factor (power (enclosed p) minus y) n depth =
      means_valued n (value n p) (within (suc depth) (meaning n (suc depth) p)) (exponent minus y) (means_within n (suc depth) (value n p) (meaning n (suc depth) p) (means_polynomial p n (suc depth)))
