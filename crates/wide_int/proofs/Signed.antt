-- numbers that fit, and the code's tests of them
use Rattle.std.proofs.Common.{◌≡◌, ◌≢◌, ℕ, zero, suc, ◌+◌, ◌*◌, ◌^◌, ◌<◌, ℤ, pos, negsuc, ◌-ℤ◌, ◌*ℤ◌, neg_ℤ, ◌<ℤ◌, ◌≤ℤ◌, unsigned_abs, Option, SomeIff, refl, sym, ap, subst, ◌∙◌, arith, FitsSigned, to_z, of_z, to_z-of_z}
use Rattle.std.specs.Int.{w128}
use Rattle.std.proofs.lemmas.Int.{ints, unsigned_abs-mul}
use Rattle.wide_int.specs.Whole.{FitsWhole}

pub neg_fits : (z : ℤ) → FitsWhole z → FitsWhole (neg_ℤ z)
neg_fits (pos zero) f = f
neg_fits (pos (suc n)) f = f
neg_fits (negsuc n) f = f

-- a factor of a number that fits
pub below_product : (n x : ℕ) → 0 < n → n * x < 2 ^ 127 → x < 2 ^ 127
below_product zero x h k = absurd (omega arith)
below_product (suc n) x h k = step (n * x) x (omega arith)
  where
    step : (m x : ℕ) → m + x < 2 ^ 127 → x < 2 ^ 127
    step m x h = omega arith

pub neg_signed : (z : ℤ) → FitsWhole z → FitsSigned w128 (pos 0 -ℤ z)
neg_signed (pos zero) f = omega (arith, ints)
neg_signed (pos (suc n)) f = let h : suc n < 2 ^ 127 = f in omega (arith, ints, h)
neg_signed (negsuc n) f = let h : suc n < 2 ^ 127 = f in omega (arith, ints, h)

pub is_neg : (z : ℤ) → pos 0 -ℤ z ≡ neg_ℤ z
is_neg z = omega (arith, ints)

pub as_pos : (z : ℤ) → pos 0 ≤ℤ z → z ≡ pos (unsigned_abs z)
as_pos (pos n) h = refl
as_pos (negsuc n) h = absurd (omega (arith, ints))

pub nonneg_fits : (z : ℤ) → FitsSigned w128 z → pos 0 ≤ℤ z → FitsWhole z
nonneg_fits (pos n) f h = step n (omega (arith, ints))
  where
    step : (n : ℕ) → n < 2 ^ 127 → n < 2 ^ 127
    step n h = h
nonneg_fits (negsuc n) f h = absurd (omega (arith, ints))

pub abs_positive : (z : ℤ) → pos 0 <ℤ z → 0 < unsigned_abs z
abs_positive (pos n) h = omega (arith, ints)
abs_positive (negsuc n) h = absurd (omega (arith, ints))

-- the code's test for zero
pub is_zero : (z : ℤ) → FitsSigned w128 z → of_z w128 z ≡ 0 → z ≡ pos 0
is_zero z f e = sym (to_z-of_z {w = w128} {z = z} f) ∙ ap (to_z w128) e

pub not_zero : (z : ℤ) → ¬ (of_z w128 z ≡ 0) → z ≢ pos 0
not_zero z n e = n (ap (of_z w128) e)

pub some_same : (r : Option ℤ) (x y : ℤ) → x ≡ y → SomeIff r (FitsWhole x) x → SomeIff r (FitsWhole y) y
some_same r x y e h = subst (λ z. SomeIff r (FitsWhole z) z) e h

-- a factor of a number that fits, by a positive number
pub factor_fits : (g q a : ℤ) → pos 0 <ℤ g → g *ℤ q ≡ a → FitsWhole a → FitsWhole q
factor_fits g q a p e f = below_product (unsigned_abs g) (unsigned_abs q) (abs_positive g p) (subst (λ n. n < 2 ^ 127) (ap unsigned_abs (sym e) ∙ unsigned_abs-mul g q) f)

pub some_abs : (z : ℤ) → z ≢ pos 0 → 0 < unsigned_abs z
some_abs (pos zero) n = absurd (n refl)
some_abs (pos (suc k)) n = omega arith
some_abs (negsuc k) n = omega arith

pub positive_is : (g : ℤ) → pos 0 <ℤ g → pos (unsigned_abs g) ≡ g
positive_is (pos n) p = refl
positive_is (negsuc n) p = absurd (omega (arith, ints, p))
