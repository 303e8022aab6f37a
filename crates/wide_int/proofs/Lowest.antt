-- fractions in lowest terms
use Rattle.std.proofs.Common.{◌≡◌, ◌≢◌, ℕ, zero, suc, ◌*◌, ◌^◌, ◌<◌, ℤ, pos, negsuc, ◌*ℤ◌, ◌-ℤ◌, neg_ℤ, ◌<ℤ◌, unsigned_abs, Ordering, Less, Equal, Greater, refl, sym, ap, ap₂, subst, subst₂, ◌∙◌, arith}
use Rattle.std.specs.Ordering.{MatchOrdering}
use Prim.Native.Nat.{◌∣◌}
use Rattle.std.specs.Int.{IsGcd}
use Rattle.std.proofs.Math.Nat.{one-dvd, dvd_of_mul-dvd-mul_left, mul-dvd-mul_left, dvd-mul_left}
use Rattle.std.proofs.lemmas.Int.{ints, unsigned_abs-mul}
use Rattle.std.proofs.lemmas.Nat.Gcd.{dvd_antisymm}
use Rattle.wide_int.specs.Whole.{FitsWhole}
use Rattle.wide_int.specs.Fractions.{Fraction, IsLowest, IsFraction, IsBelow, OneForm, FractionsAreOrdered}
use Rattle.wide_int.proofs.CommonDivisors.{euclid_lemma}
use Rattle.wide_int.proofs.Order.{mul_cancel, not_lt, ratio_lt_trans}
use Rattle.wide_int.proofs.Ring.{as_D, Ds, same_D}
use Rattle.wide_int.proofs.Signed.{is_neg, abs_positive}

abs_neg : (z : ℤ) → unsigned_abs (pos 0 -ℤ z) ≡ unsigned_abs z
abs_neg z = ap unsigned_abs (is_neg z) ∙ turned z
  where
    turned : (z : ℤ) → unsigned_abs (neg_ℤ z) ≡ unsigned_abs z
    turned (pos zero) = refl
    turned (pos (suc n)) = refl
    turned (negsuc n) = refl

pub turned_lowest : (n d : ℤ) → d <ℤ pos 0 → IsGcd (unsigned_abs n) (unsigned_abs d) 1 → FitsWhole n → FitsWhole d → IsLowest (record { num = pos 0 -ℤ n; den = pos 0 -ℤ d })
turned_lowest n d h g fn fd =
    let en = sym (abs_neg n) in
    let ed = sym (abs_neg d) in (
      omega (arith, ints, h),
      subst₂ (λ (a : ℕ) (b : ℕ). IsGcd a b 1) en ed g,
      subst (λ (a : ℕ). a < 2 ^ 127) en fn,
      subst (λ (a : ℕ). a < 2 ^ 127) ed fd,
    )

pub kept_lowest : (n d : ℤ) → d ≢ pos 0 → ¬ (d <ℤ pos 0) → IsGcd (unsigned_abs n) (unsigned_abs d) 1 → FitsWhole n → FitsWhole d → IsLowest (record { num = n; den = d })
kept_lowest n d o h g fn fd = (positive d o h, g, fn, fd)
  where
    positive : (d : ℤ) → d ≢ pos 0 → ¬ (d <ℤ pos 0) → pos 0 <ℤ d
    positive (pos zero) o h = absurd (o refl)
    positive (pos (suc n)) o h = omega (arith, ints)
    positive (negsuc n) o h = absurd (h (omega (arith, ints)))

-- division by the gcd
apart : (a b g m n : ℕ) → 0 < g → IsGcd a b g → g * m ≡ a → g * n ≡ b → IsGcd m n 1
apart a b g m n p d em en = (
  one-dvd m,
  one-dvd n,
  λ e h k.
      let x = subst (λ z. g * e ∣ z) em (mul-dvd-mul_left e g h) in
      let y = subst (λ z. g * e ∣ z) en (mul-dvd-mul_left e g k) in
      let z = d.2 (g * e) x y in
      let i : g ≡ g * 1 = omega arith in
      dvd_of_mul-dvd-mul_left e p (subst (λ w. g * e ∣ w) i z),
)

-- the quotients by the gcd have no common divisor
pub quotients_apart : (num den g n d : ℤ) → pos 0 <ℤ g → IsGcd (unsigned_abs num) (unsigned_abs den) (unsigned_abs g) → g *ℤ n ≡ num → g *ℤ d ≡ den → IsGcd (unsigned_abs n) (unsigned_abs d) 1
quotients_apart num den g n d p h en ed =
    apart (unsigned_abs num) (unsigned_abs den) (unsigned_abs g) _ _ (abs_positive g p) h (sym (unsigned_abs-mul g n) ∙ ap unsigned_abs en) (sym (unsigned_abs-mul g d) ∙ ap unsigned_abs ed)

-- g a / b for the quotients is a / b for the numbers
pub value_back : (a b n d g num den : ℤ) → g *ℤ n ≡ num → g *ℤ d ≡ den → a *ℤ d ≡ n *ℤ b → a *ℤ den ≡ num *ℤ b
value_back a b n d g num den en ed e =
    ap (λ z. a *ℤ z) (sym ed) ∙ left a g d ∙ ap (λ z. g *ℤ z) e ∙ right g n b ∙ ap (λ z. z *ℤ b) en
  where
    left : (a g d : ℤ) → a *ℤ (g *ℤ d) ≡ g *ℤ (a *ℤ d)
    left a g d = rw (as_D a, as_D g, as_D d) (simp Ds (same_D _ _ _ _ (omega arith)))

    right : (g n b : ℤ) → g *ℤ (n *ℤ b) ≡ (g *ℤ n) *ℤ b
    right g n b = rw (as_D g, as_D n, as_D b) (simp Ds (same_D _ _ _ _ (omega arith)))

one_den : (a b c d : ℕ) → 0 < b → 0 < d → IsGcd a b 1 → IsGcd c d 1 → a * d ≡ c * b → b ≡ d
one_den a b c d pb pd g h e =
    dvd_antisymm
    (euclid_lemma a b d pd g (subst (λ n. b ∣ n) (sym e ∙ comm a d) (dvd-mul_left b c)))
    (euclid_lemma c d b pb h (subst (λ n. d ∣ n) (e ∙ comm c b) (dvd-mul_left d a)))
  where
    comm : (a d : ℕ) → a * d ≡ d * a
    comm a d = omega arith

same_positive : (b d : ℤ) → pos 0 <ℤ b → pos 0 <ℤ d → unsigned_abs b ≡ unsigned_abs d → b ≡ d
same_positive (pos b) (pos d) p q e = ap pos e
same_positive (pos b) (negsuc d) p q e = absurd (omega (arith, ints, q))
same_positive (negsuc b) d p q e = absurd (omega (arith, ints, p))

same_parts : (f g : Fraction) → IsLowest f → IsLowest g → IsFraction f g.num g.den → (f.num ≡ g.num) × (f.den ≡ g.den)
same_parts f g h k e =
    let n = sym (unsigned_abs-mul f.num g.den) ∙ ap unsigned_abs e ∙ unsigned_abs-mul g.num f.den in
    let s = same_positive f.den g.den h.0 k.0 (one_den (unsigned_abs f.num) (unsigned_abs f.den) (unsigned_abs g.num) (unsigned_abs g.den) (abs_positive f.den h.0) (abs_positive g.den k.0) h.1 k.1 n) in
    (mul_cancel f.num g.num g.den (λ z. let p = k.0 in omega (arith, ints, z, p)) (e ∙ ap (λ z. g.num *ℤ z) s), s)

pub one_form_is : OneForm
one_form_is f g h k e = let s = same_parts f g h k e in ap₂ (λ a b. record { num = a; den = b }) s.0 s.1

-- ---- the order of the values
pub ordered_is : FractionsAreOrdered
ordered_is = record {
  apart = λ f h. omega (arith, ints, h);
  transitive = λ f g h lf lg lh a b. ratio_lt_trans f.num f.den g.num g.den h.num h.den lf.0 lg.0 lh.0 a b;
  total = λ f g lf lg a b. one_form_is f g lf lg (not_lt (f.num *ℤ g.den) (g.num *ℤ f.den) a b);
}

-- the order of the values is that of the fractions
pub order_is : (o : Ordering) (f g : Fraction) → IsLowest f → IsLowest g → MatchOrdering o ((f.num *ℤ g.den) <ℤ (g.num *ℤ f.den)) (f.num *ℤ g.den ≡ g.num *ℤ f.den) ((g.num *ℤ f.den) <ℤ (f.num *ℤ g.den))
    → MatchOrdering o (IsBelow f g) (f ≡ g) (IsBelow g f)
order_is Less f g lf lg h = h
order_is Equal f g lf lg h = one_form_is f g lf lg h
order_is Greater f g lf lg h = h
