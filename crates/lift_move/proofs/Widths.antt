-- second heights fit
use Rattle.std.proofs.Common.{ℤ, pos, negsuc, neg_ℤ, ◌≤ℤ◌, ◌≤◌, arith}
use Rattle.std.specs.Prelude.{FitsSigned, unsigned_abs}
use Rattle.std.specs.Int.{w64, w128}
use Rattle.std.proofs.lemmas.Int.{ints}

pub height_width : (z : ℤ) → neg_ℤ (pos 1000000000) ≤ℤ z → z ≤ℤ pos 1000000000 → FitsSigned w64 z
height_width (pos n) low high = record { sfits = omega (arith, ints) }
height_width (negsuc n) low high = record { sfits = omega (arith, ints) }

pub height_width_128 : (z : ℤ) → neg_ℤ (pos 1000000000) ≤ℤ z → z ≤ℤ pos 1000000000 → FitsSigned w128 z
height_width_128 (pos n) low high = record { sfits = omega (arith, ints) }
height_width_128 (negsuc n) low high = record { sfits = omega (arith, ints) }

pub height_within : (z : ℤ) → neg_ℤ (pos 1000000000) ≤ℤ z → z ≤ℤ pos 1000000000 → unsigned_abs z ≤ 1000000000
height_within z low high = omega (arith, ints)
