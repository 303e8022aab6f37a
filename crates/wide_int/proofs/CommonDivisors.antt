-- greatest common divisors and least common multiples
use Rattle.std.proofs.Common.{◌≡◌, ◌≢◌, ℕ, zero, suc, ◌+◌, ◌*◌, ◌/◌, ◌%◌, ◌<◌, ◌≤◌, inl, inr, eq-zero-or-pos, ℤ, pos, negsuc, ◌*ℤ◌, ◌<ℤ◌, ◌≤ℤ◌, unsigned_abs, int_div, refl, sym, ap, subst, subst₂, ◌∙◌, arith, div-add-mod', mul-pos}
use Prim.Native.Nat.{◌∣◌}
use Rattle.std.specs.Int.{IsGcd}
use Rattle.std.proofs.Math.Nat.{mod-lt, dvd_of_mul-dvd-mul_left, mul-dvd-mul_left, mul-add-mod_self_left, mod-eq_of_lt, dvd-mul_left, dvd-mul_right}
use Rattle.std.proofs.lemmas.Int.{ints}
use Rattle.std.proofs.lemmas.Nat.Gcd.{IsGcd-from_zero, IsGcd-from_mod, same_from_IsGcd, mod-eq-zero_of_dvd, dvd-zero, dvd_antisymm}
use Rattle.std.proofs.Math.IntN.{*ℤ_comm}
use Rattle.wide_int.proofs.Dividing.{quot_exact}
use Rattle.wide_int.proofs.Order.{mul_cancel}
use Rattle.wide_int.specs.Divisors.{euclid, gcd_of, lcm_of, IsLcm}

-- ---- greatest common divisors
pub euclid_is : (n a b : ℕ) → b ≤ n → IsGcd a b (euclid n a b)
unfolding euclid
euclid_is n a zero h = IsGcd-from_zero a 0 refl
euclid_is zero a (suc b) h = absurd (omega arith)
euclid_is (suc n) a (suc b) h =
    let l : a % suc b < suc b = mod-lt a (omega arith) in
    IsGcd-from_mod a (suc b) _ (euclid_is n (suc b) (a % suc b) (omega arith))

pub gcd_is : (a b : ℕ) → IsGcd a b (gcd_of a b)
unfolding gcd_of
gcd_is a b = euclid_is b a b (omega arith)

pub gcd_positive : (a b g : ℕ) → 0 < a → g ∣ a → 0 < g
gcd_positive a b zero p d = absurd (let e = dvd_antisymm d (dvd-zero a) in omega (arith, e))
gcd_positive a b (suc g) p d = omega arith

-- the gcd of multiples
mod_times : (c a b : ℕ) → 0 < c → 0 < b → (c * a) % (c * b) ≡ c * (a % b)
mod_times c a b pc pb =
    let q = a / b in
    let r = a % b in
    let e : c * b * (a / b) + c * (a % b) ≡ c * a = step c b q r a (div-add-mod' a b) in
    let l = mod-lt a pb in
    ap (λ n. n % (c * b)) (sym e) ∙ mul-add-mod_self_left (c * b) q (c * r) ∙ mod-eq_of_lt (times_less c r b pc l)
  where
    step : (c b q r a : ℕ) → q * b + r ≡ a → c * b * q + c * r ≡ c * a
    step c b q r a h = let k = ap (λ n. c * n) h in omega (arith, k)

    times_less : (c r b : ℕ) → 0 < c → r < b → c * r < c * b
    times_less zero r b h k = absurd (omega arith)
    times_less (suc c) r b h k = mul_less c r b k
      where
        mul_less : (c r b : ℕ) → r < b → suc c * r < suc c * b
        mul_less zero r b k = omega (arith, k)
        mul_less (suc c) r b k = let i = mul_less c r b k in omega (arith, i, k)

multiple : (c n a b : ℕ) → 0 < c → b ≤ n → IsGcd (c * a) (c * b) (c * euclid n a b)
unfolding euclid
multiple c n a zero p h = IsGcd-from_zero (c * a) (c * 0) (omega arith)
multiple c zero a (suc b) p h = absurd (omega arith)
multiple c (suc n) a (suc b) p h =
    let l : a % suc b < suc b = mod-lt a (omega arith) in
    let i = multiple c n (suc b) (a % suc b) p (omega arith) in
    IsGcd-from_mod (c * a) (c * suc b) _ (subst (λ m. IsGcd (c * suc b) m (c * euclid n (suc b) (a % suc b))) (sym (mod_times c a (suc b) p (omega arith))) i)

pub gcd_multiple : (c a b : ℕ) → 0 < c → IsGcd (c * a) (c * b) (c * gcd_of a b)
unfolding gcd_of
gcd_multiple c a b p = multiple c b a b p (omega arith)

-- what divides a product and is prime to one factor divides the other
pub euclid_lemma : (a b d : ℕ) → 0 < d → IsGcd a b 1 → b ∣ d * a → b ∣ d
euclid_lemma a b d p g h =
    let m = gcd_multiple d a b p in
    let e = same_from_IsGcd a b (gcd_of a b) 1 (gcd_is a b) g in
    let k = m.2 b h (dvd-mul_left b d) in
    let i : d * 1 ≡ d = omega arith in
    subst (λ n. b ∣ n) (ap (λ n. d * n) e ∙ i) k

-- ---- least common multiples
pub quotient_times : (m g : ℕ) → g ∣ m → m / g * g ≡ m
quotient_times m g d = let e = div-add-mod' m g in let z = mod-eq-zero_of_dvd g d in omega (arith, e, z)

pub lcm_positive : (m n : ℕ) → 0 < m → 0 < n → 0 < lcm_of m n
unfolding lcm_of
lcm_positive m n p q = mul-pos (step (m / gcd_of m n) (gcd_of m n) (quotient_times m (gcd_of m n) (gcd_is m n).0)) q
  where
    step : (a g : ℕ) → a * g ≡ m → 0 < a
    step zero g e = absurd (omega (arith, e))
    step (suc a) g e = omega arith

pub lcm_first : (a b : ℕ) → a ∣ lcm_of a b
unfolding lcm_of
lcm_first a b =
    let g = gcd_of a b in
    let d = gcd_is a b in
    let e : a / gcd_of a b * b ≡ a * (b / gcd_of a b) = step (a / g) (b / g) g a b (quotient_times a g d.0) (quotient_times b g d.1) in
    subst (λ n. a ∣ n) (sym e) (dvd-mul_right a (b / g))
  where
    step : (p q g a b : ℕ) → p * g ≡ a → q * g ≡ b → p * b ≡ a * q
    step p q g a b h k = ap (λ n. p * n) (sym k) ∙ turn p g q ∙ ap (λ n. n * q) h
      where
        turn : (p g q : ℕ) → p * (q * g) ≡ p * g * q
        turn p g q = omega arith

pub lcm_second : (a b : ℕ) → b ∣ lcm_of a b
unfolding lcm_of
lcm_second a b = dvd-mul_left b (a / gcd_of a b)

-- the least one divides each common multiple
pub lcm_least : (a b m : ℕ) → 0 < m → a ∣ m → b ∣ m → lcm_of a b ∣ m
unfolding lcm_of
lcm_least a b m s h k =
    let g = gcd_of a b in
    let d = gcd_is a b in
    let pa = gcd_positive m m a s h in
    let pg = gcd_positive a b g pa d.0 in
    let x = subst (λ n. a * b ∣ n) (comm a m) (mul-dvd-mul_left b a k) in
    let y = subst₂ (λ (i : ℕ) (j : ℕ). i ∣ j) (comm b a) (comm b m) (mul-dvd-mul_left a b h) in
    let z = (gcd_multiple m a b s).2 (a * b) x y in
    let e : a * b ≡ gcd_of a b * (a / gcd_of a b * b) = step a b (a / g) g (quotient_times a g d.0) in
    dvd_of_mul-dvd-mul_left (a / g * b) pg (subst₂ (λ (i : ℕ) (j : ℕ). i ∣ j) e (comm m g) z)
  where
    comm : (a b : ℕ) → a * b ≡ b * a
    comm a b = omega arith

    step : (a b q g : ℕ) → q * g ≡ a → a * b ≡ g * (q * b)
    step a b q g h = let i = ap (λ n. n * b) h in omega (arith, i)

pub lcm_is_least : (a b : ℕ) → IsLcm a b (lcm_of a b)
lcm_is_least a b = (
  lcm_first a b,
  lcm_second a b,
  λ n h k. elim (eq-zero-or-pos n) [
    | inl z ↦ subst (λ m. lcm_of a b ∣ m) (sym z) (dvd-zero (lcm_of a b))
    | inr p ↦ lcm_least a b n p h k
  ],
)

-- ---- of whole numbers
pub gcd_above : (a b g : ℤ) → b ≢ pos 0 → IsGcd (unsigned_abs a) (unsigned_abs b) (unsigned_abs g) → pos 0 ≤ℤ g → pos 0 <ℤ g
gcd_above a b (pos g) o d s = let p = gcd_positive (unsigned_abs b) (unsigned_abs a) g (abs_some b o) d.1 in omega (arith, ints, p)
  where
    abs_some : (z : ℤ) → z ≢ pos 0 → 0 < unsigned_abs z
    abs_some (pos zero) o = absurd (o refl)
    abs_some (pos (suc n)) o = omega arith
    abs_some (negsuc n) o = omega arith
gcd_above a b (negsuc g) o d s = absurd (omega (arith, ints, s))

-- a / g times b, for the gcd g
lcm_is : (a b g : ℤ) → pos 0 <ℤ a → pos 0 <ℤ b → IsGcd (unsigned_abs a) (unsigned_abs b) (unsigned_abs g) → pos 0 ≤ℤ g
    → int_div a g *ℤ b ≡ pos (lcm_of (unsigned_abs a) (unsigned_abs b))
unfolding lcm_of
lcm_is (pos m) (pos n) (pos g) p q d s = ap (λ k. pos (m / k * n)) (same_from_IsGcd m n g (gcd_of m n) d (gcd_is m n))
lcm_is (negsuc m) b g p q d s = absurd (omega (arith, ints))
lcm_is (pos m) (negsuc n) g p q d s = absurd (omega (arith, ints))
lcm_is (pos m) (pos n) (negsuc g) p q d s = absurd (omega (arith, ints))

pub lcm_from : (a b g q : ℤ) → pos 0 <ℤ a → pos 0 <ℤ b → IsGcd (unsigned_abs a) (unsigned_abs b) (unsigned_abs g) → pos 0 <ℤ g → g *ℤ q ≡ a
    → q *ℤ b ≡ pos (lcm_of (unsigned_abs a) (unsigned_abs b))
lcm_from a b g q p r d s e =
    let x = quot_exact a g d.0 in
    let same : q ≡ int_div a g = mul_cancel q (int_div a g) g (λ z. omega (arith, ints, z, s)) (*ℤ_comm q g ∙ e ∙ sym x ∙ *ℤ_comm g (int_div a g)) in
    ap (λ z. z *ℤ b) same ∙ lcm_is a b g p r d (omega (arith, ints, s))
