-- Numbers of a listing fit.
use Rattle.std.proofs.Common.{ℕ, ◌-◌, ◌^◌, ◌<◌, ℤ, pos, negsuc, neg_ℤ, ◌≤ℤ◌, List, [], ◌∷◌, ◌++◌, arith, lit<}
use Rattle.std.specs.Prelude.{FitsSigned, unsigned_abs}
use Rattle.std.specs.Int.{w128}
use Rattle.std.proofs.lemmas.Int.{ints}
use Rattle.wide_int.specs.Whole.{FitsWhole}
use Rattle.int_vectors.specs.Vectors.{Each}

within_width : (k : ℕ) (z : ℤ) → neg_ℤ (pos k) ≤ℤ z → z ≤ℤ pos k → k < 2 ^ 127 → FitsSigned w128 z
within_width k (pos n) low high small = record { sfits = omega (arith, ints) }
within_width k (negsuc n) low high small = record { sfits = omega (arith, ints) }

pub entry_width : (z : ℤ) → neg_ℤ (pos (2 ^ 127 - 1)) ≤ℤ z → z ≤ℤ pos (2 ^ 127 - 1) → FitsSigned w128 z
entry_width z low high = within_width (2 ^ 127 - 1) z low high (lit< tt)

within_whole : (k : ℕ) (z : ℤ) → neg_ℤ (pos k) ≤ℤ z → z ≤ℤ pos k → k < 2 ^ 127 → unsigned_abs z < 2 ^ 127
within_whole k z low high small = omega (arith, ints)

pub entry_fits : (z : ℤ) → neg_ℤ (pos (2 ^ 127 - 1)) ≤ℤ z → z ≤ℤ pos (2 ^ 127 - 1) → FitsWhole z
entry_fits z low high = within_whole (2 ^ 127 - 1) z low high (lit< tt)

-- one element more
pub each-push : {A : Type 0} (P : A → Type 0) (xs : List A) (x : A) → Each xs P → P x → Each (xs ++ x ∷ []) P
each-push P [] x h p = (p, tt)
each-push P (y ∷ xs) x h p = (h.0, each-push P xs x h.1 p)
