-- the products of a row and the columns, and of all rows, one by one
use Rattle.std.proofs.Common.{◌≡◌, ℕ, zero, suc, ◌<◌, ◌≤◌, arith, refl, ap}
use Rattle.std.proofs.Math.IntN.{ℤ, pos}
use Rattle.path_trace.specs.Inverses.{in_identity}

pub identity_here : (g : ℤ) (i k : ℕ) → i ≡ k → in_identity g i k ≡ g
identity_here g zero zero e = refl
identity_here g zero (suc k) e = absurd (omega (arith, e))
identity_here g (suc i) zero e = absurd (omega (arith, e))
identity_here g (suc i) (suc k) e = identity_here g i k (omega (arith, e))

pub identity_elsewhere : (g : ℤ) (i k : ℕ) → ¬ (i ≡ k) → in_identity g i k ≡ pos 0
identity_elsewhere g zero zero n = absurd (n refl)
identity_elsewhere g zero (suc k) n = refl
identity_elsewhere g (suc i) zero n = refl
identity_elsewhere g (suc i) (suc k) n = identity_elsewhere g i k (λ e. n (ap suc e))

pub below_all : (P : ℕ → Type 0) (n k : ℕ) → n ≤ k → ((i : ℕ) → i < k → P i) → (i : ℕ) → i < n → P i
below_all P n k le h i lt = h i (omega (arith, lt, le))
