-- exact quotients of whole numbers
use Rattle.std.proofs.Common.{◌≡◌, ℕ, ℤ, pos, negsuc, ◌*ℤ◌, neg_ℤ, ◌<ℤ◌, unsigned_abs, int_div, int_rem, ap, ◌∙◌, arith, FitsSigned, to_z, of_z}
use Prim.Native.Nat.{◌∣◌}
use Rattle.std.specs.Int.{w128}
use Rattle.std.proofs.Math.IntN.{*ℤ_comm}
use Rattle.std.proofs.lemmas.Int.{ints, quot-rem, quot_is, quot_fits}
use Rattle.std.proofs.lemmas.Nat.Gcd.{mod-eq-zero_of_dvd}

rem_zero : (x g : ℤ) → unsigned_abs g ∣ unsigned_abs x → int_rem x g ≡ pos 0
rem_zero (pos n) g d = ap pos (mod-eq-zero_of_dvd (unsigned_abs g) d)
rem_zero (negsuc n) g d = ap (λ (k : ℕ). neg_ℤ (pos k)) (mod-eq-zero_of_dvd (unsigned_abs g) d)

-- a quotient by a divisor is exact
pub quot_exact : (x g : ℤ) → unsigned_abs g ∣ unsigned_abs x → g *ℤ int_div x g ≡ x
quot_exact x g d =
    let e = quot-rem x g in
    let z = rem_zero x g d in
    *ℤ_comm g (int_div x g) ∙ omega (arith, ints, e, z)

-- what the code's quotient is
pub quotient : (x g : ℤ) → FitsSigned w128 x → FitsSigned w128 g → pos 0 <ℤ g → to_z w128 (of_z w128 (int_div (to_z w128 (of_z w128 x)) (to_z w128 (of_z w128 g)))) ≡ int_div x g
quotient x g fx fg p = quot_is w128 x g fx fg (quot_fits w128 x g fx p)
