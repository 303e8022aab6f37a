-- the pairs of a list
use Rattle.std.proofs.Common.{List, length, arith, zero, suc, ap, ℕ, ◌≡◌, ◌+◌, ◌*◌, [], ◌∷◌}
use Rattle.std.proofs.Math.IntN.{ℤ}
use Rattle.inner_normal.specs.Coefficients.{pairs_of}

pub pairs_count : (xs : List ℤ) (n : ℕ) → length xs ≡ 2 * n + 1 → length (pairs_of xs) ≡ n
pairs_count [] n e = absurd (omega (arith, e))
pairs_count (x ∷ []) n e = (let h : 0 ≡ n = omega (arith, e) in h)
pairs_count (x ∷ y ∷ xs) zero e = absurd (omega (arith, e))
pairs_count (x ∷ y ∷ xs) (suc n) e = ap suc (pairs_count xs n (omega (arith, e)))
