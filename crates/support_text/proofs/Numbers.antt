-- The text of a number is read as the number.
use Rattle.std.proofs.Common.{◌≡◌, Bool, true, ◌&&◌, ℤ, pos, negsuc, neg_ℤ, ◌≤ℤ◌, Ok, refl, sym, arith}
use Rattle.std.specs.Prelude.{int_le, FitsSigned}
use Rattle.std.specs.Int.{w64, w128}
use Rattle.std.specs.Fmt.{signed_decimal}
use Rattle.std.proofs.lemmas.Int.{ints}
use Rattle.wide_int.specs.Whole.{FitsWhole}
use Rattle.line_text.specs.Numbers.{number_in}
use Rattle.line_text.proofs.NumberLemmas.{number_inside, written_number, written_value}

abbrev pub IsWithin : ℤ → ℤ → ℤ → Type 0
IsWithin low high z = (low ≤ℤ z) × (z ≤ℤ high)

pub int_le_true : (x y : ℤ) → x ≤ℤ y → int_le x y ≡ true
int_le_true x y h = grind (arith, ints)

pub both_are : (a b : Bool) → a ≡ true → b ≡ true → (a && b) ≡ true
both_are a b p q = rw (p, q) refl

pub number_in_text : (low high z : ℤ) → IsWithin low high z → FitsSigned w128 z → number_in low high (signed_decimal z) ≡ Ok z
number_in_text low high z within fits =
    sym (number_inside low high z (signed_decimal z) (written_number z fits) (sym (written_value z fits))
    (both_are (int_le low z) (int_le z high) (int_le_true low z within.0) (int_le_true z high within.1)))

-- a coordinate fits
pub in_limits : (z : ℤ) → neg_ℤ (pos 1000000) ≤ℤ z → z ≤ℤ pos 1000000 → FitsWhole z
in_limits z low high = omega (arith, ints)

pub coordinate_width : (z : ℤ) → neg_ℤ (pos 1000000) ≤ℤ z → z ≤ℤ pos 1000000 → FitsSigned w128 z
coordinate_width (pos n) low high = record { sfits = omega (arith, ints) }
coordinate_width (negsuc n) low high = record { sfits = omega (arith, ints) }

pub start_width : (z : ℤ) → pos 1 ≤ℤ z → z ≤ℤ pos 1000000000 → FitsSigned w64 z
start_width (pos n) low high = record { sfits = omega (arith, ints) }
start_width (negsuc n) low high = record { sfits = omega (arith, ints) }

pub start_width_128 : (z : ℤ) → pos 1 ≤ℤ z → z ≤ℤ pos 1000000000 → FitsSigned w128 z
start_width_128 (pos n) low high = record { sfits = omega (arith, ints) }
start_width_128 (negsuc n) low high = record { sfits = omega (arith, ints) }
