-- Exponents with their sign turned.
use Rattle.std.proofs.Common.{rules, ◌≡◌, ℕ, ℤ, pos, neg_ℤ, ◌-ℤ◌, ◌≤ℤ◌, Bool, true, false, ◌&&◌, SomeIff, int_le, List, Option, Some, None, Ok, Err, refl, sym, ap, ◌∙◌, if◌then◌else◌, unsigned_abs, arith}
use Rattle.std.proofs.lemmas.Int.{ints}
use Rattle.std.proofs.Math.IntN.{+ℤ_idl}
use Rattle.wide_int.specs.Whole.{FitsWhole}
use Rattle.poly_text.specs.declared.causes.Cause.TheVariants.{Range}
use Rattle.poly_text.specs.declared.reading.Base.{Base}
use Rattle.poly_text.specs.declared.reading.Base.TheVariants.{Named, Valued}
use Rattle.poly_text.specs.Maps.{Monomial, power_of_variable}
use Rattle.poly_text.specs.Bounds.{Verdict, ◌>>=◌, raised}
use Rattle.poly_text.specs.Trees.{base_power, variable_power, value_power, exponent}

turned : (z : ℤ) → (pos 0 -ℤ z) ≡ neg_ℤ z
turned z = +ℤ_idl (neg_ℤ z)

pub negative_some : (n : ℕ) (b : Base) (z w : ℤ) → w ≡ pos 0 -ℤ z → base_power n b (Some w) ≡ base_power n b (exponent true (Some z))
negative_some n b z w e = ap (λ (y : ℤ). base_power n b (Some y)) (e ∙ turned z)

not_both : (p q : Bool) → (p ≡ true → q ≡ true → ⊥) → (p && q) ≡ false
not_both true true h = absurd (h refl refl)
not_both true false h = refl
not_both false q h = refl

right_false : (p q : Bool) → q ≡ false → (p && q) ≡ false
right_false true q h = h
right_false false q h = refl

reaches : (lo hi k : ℤ) → int_le lo k ≡ true → int_le k hi ≡ true → (lo ≤ℤ k) × (k ≤ℤ hi)
reaches lo hi k p q = (search rules, search rules)

far_from_variable : (k : ℤ) → ¬ (FitsWhole k) → (int_le (neg_ℤ (pos 1000000)) k && int_le k (pos 1000000)) ≡ false
far_from_variable k h = not_both (int_le (neg_ℤ (pos 1000000)) k) (int_le k (pos 1000000)) (λ p q. let r = reaches (neg_ℤ (pos 1000000)) (pos 1000000) k p q in h (let a = r.0 in let b = r.1 in omega (arith, ints)))

far_from_power : (k : ℤ) → ¬ (FitsWhole k) → (int_le (pos 0) k && int_le k (pos 16)) ≡ false
far_from_power k h = not_both (int_le (pos 0) k) (int_le k (pos 16)) (λ p q. let r = reaches (pos 0) (pos 16) k p q in h (let a = r.0 in let b = r.1 in omega (arith, ints)))

abbrev past : Verdict (List Monomial)
past = Err Range

if_false : (t : Bool) (v : Verdict (List Monomial)) → t ≡ false → (if t then v else past) ≡ past
if_false t v h = rw h refl

no_variable : (n : ℕ) (i : Option ℤ) (k : ℤ) → ¬ (FitsWhole k) → variable_power n i k ≡ past
no_variable n None k h = refl
no_variable n (Some i) k h =
    if_false ((int_le (pos 1) i && int_le i (pos n)) && (int_le (neg_ℤ (pos 1000000)) k && int_le k (pos 1000000))) (Ok (power_of_variable n i k))
    (right_false (int_le (pos 1) i && int_le i (pos n)) (int_le (neg_ℤ (pos 1000000)) k && int_le k (pos 1000000)) (far_from_variable k h))

no_value : (n : ℕ) (v : Verdict (List Monomial)) (k : ℤ) → ¬ (FitsWhole k) → value_power n v k ≡ past
no_value n v k h = if_false (int_le (pos 0) k && int_le k (pos 16)) (v >>= λ f. raised n f (unsigned_abs k)) (far_from_power k h)

no_power : (n : ℕ) (b : Base) (k : ℤ) → ¬ (FitsWhole k) → past ≡ base_power n b (Some k)
no_power n (Named i) k h = sym (no_variable n i k h)
no_power n (Valued v) k h = sym (no_value n v k h)

pub negative_none : (n : ℕ) (b : Base) (z : ℤ) → ¬ (FitsWhole (pos 0 -ℤ z)) → base_power n b None ≡ base_power n b (exponent true (Some z))
negative_none n b z h = no_power n b (pos 0 -ℤ z) h ∙ ap (λ (y : ℤ). base_power n b (Some y)) (turned z)

pub negative_is : (r : Option ℤ) (z : ℤ) → SomeIff r (FitsWhole (pos 0 -ℤ z)) (pos 0 -ℤ z) → (n : ℕ) (b : Base) → base_power n b r ≡ base_power n b (exponent true (Some z))
negative_is None z h n b = negative_none n b z h
negative_is (Some w) z h n b = negative_some n b z w h.1
