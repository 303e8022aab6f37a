use Rattle.std.proofs.Common.{◌≡◌, ℕ, ◌<◌, ◌^◌, arith, eq-zero-or-pos, inl, inr, unsigned_abs, ℤ, FitsSigned, to_z, of_z, to_z-of_z, subst₂}
use Rattle.std.proofs.lemmas.Int.{ints, to_z_pos}
use Rattle.std.proofs.lemmas.Nat.Gcd.{IsGcd-from_zero, IsGcd-swap, same_from_IsGcd, le_of_dvd}
use Rattle.std.specs.Int.{IsGcd, w128}
use Rattle.wide_int.specs.Whole.{FitsWhole}
use Rattle.wide_int.proofs.divisors.gcd.Goals as goal

gcd_below : (a b g h : ℕ) → IsGcd a b g → a < h → b < h → g < h
gcd_below a b g h d p q = elim (eq-zero-or-pos a) [
  | inl z ↦ let e = same_from_IsGcd a b g b d (IsGcd-swap b a b (IsGcd-from_zero b a z)) in omega arith
  | inr s ↦ let e = le_of_dvd s d.0 in omega arith
]

below : (x y : ℤ) (a b g : ℕ) → IsGcd a b g → a ≡ unsigned_abs (to_z w128 (of_z w128 x)) → b ≡ unsigned_abs (to_z w128 (of_z w128 y)) → FitsSigned w128 x → FitsSigned w128 y
    → FitsWhole x → FitsWhole y → IsGcd (unsigned_abs x) (unsigned_abs y) g × (g < 2 ^ 127)
below x y a b g d ea eb fx fy hx hy =
    let ex = simp to_z-of_z at ea in
    let ey = simp to_z-of_z at eb in
    let e : IsGcd (unsigned_abs x) (unsigned_abs y) g = subst₂ (λ (m : ℕ) (n : ℕ). IsGcd m n g) ex ey d in
    (e, gcd_below _ _ _ _ e hx hy)

pub overflow_cast-result : goal.overflow_cast-result
overflow_cast-result c =
    let p = below c.args.a c.args.b _ _ _ c.natural_gcd.ensures c.unsigned_abs.ensures.value c.unsigned_abs-2.ensures.value c.ranges.a c.ranges.b c.requires.a_fits c.requires.b_fits in
    let q = p.1 in
    omega (arith, ints)

pub returns-clause-divisor : goal.returns-clause-divisor
returns-clause-divisor c =
    let p = below c.args.a c.args.b _ _ _ c.natural_gcd.ensures c.unsigned_abs.ensures.value c.unsigned_abs-2.ensures.value c.ranges.a c.ranges.b c.requires.a_fits c.requires.b_fits in
    rw (to_z_pos w128 _ p.1) p.0

pub returns-clause-sign : goal.returns-clause-sign
returns-clause-sign c =
    let p = below c.args.a c.args.b _ _ _ c.natural_gcd.ensures c.unsigned_abs.ensures.value c.unsigned_abs-2.ensures.value c.ranges.a c.ranges.b c.requires.a_fits c.requires.b_fits in
    let q = p.1 in
    omega (arith, ints)
