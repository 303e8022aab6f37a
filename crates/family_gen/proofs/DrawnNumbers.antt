-- The generator's numbers from a later one on.
use Rattle.std.proofs.Common.{◌≡◌, ℕ, zero, suc, ◌+◌, ◌*◌, ◌%◌, ◌^◌, refl, ap, ◌∙◌, add-zero, add-suc, mul_comm}
use Rattle.std.proofs.Math.Nat.{add-mod-mod, add_comm}
use Rattle.family_gen.specs.Generator.{following, number}

-- the two steps that wrap are one
pub wrapped_twice : (x : ℕ) → ((x * 6364136223846793005) % 2 ^ 64 + 1442695040888963407) % 2 ^ 64 ≡ following x
unfolding following
wrapped_twice x = by x 6364136223846793005 1442695040888963407 (2 ^ 64)
  where
    by : (x a c m : ℕ) → ((x * a) % m + c) % m ≡ (a * x + c) % m
    by x a c m = ap (λ (y : ℕ). y % m) (add_comm ((x * a) % m) c) ∙ add-mod-mod c (x * a) m ∙ ap (λ (y : ℕ). y % m) (add_comm c (x * a) ∙ ap (λ (y : ℕ). y + c) (mul_comm x a))

pub number-add : (seed m n : ℕ) → number seed (m + n) ≡ number (number seed m) n
unfolding number
number-add seed m zero = ap (number seed) (add-zero m)
number-add seed m (suc n) = ap (number seed) (add-suc m n) ∙ ap following (number-add seed m n)

pub number_first : (seed n : ℕ) → number seed (suc n) ≡ number (following seed) n
unfolding number
number_first seed zero = refl
number_first seed (suc n) = ap following (number_first seed n)
