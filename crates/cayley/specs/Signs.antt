-- The signs of numbers.
use Rattle.std.specs.Prelude.{◌≡◌, zero, suc, ℤ, pos, negsuc, ◌<ℤ◌}
use Rattle.cayley.specs.declared.found.Sign.{Sign}
use Rattle.cayley.specs.declared.found.Sign.TheVariants.{Minus, Zero, Plus}

-- the number has the sign
abbrev pub HasSign : Sign → ℤ → Type 0
HasSign Minus k = k <ℤ pos 0
HasSign Zero k = k ≡ pos 0
HasSign Plus k = pos 0 <ℤ k

-- the numbers at the first and at the second point of a pair have the signs
abbrev pub HaveSigns : Sign × Sign → ℤ × ℤ → Type 0
HaveSigns signs m = HasSign signs.0 m.0 × HasSign signs.1 m.1

-- the sign of a number
abbrev pub sign_of : ℤ → Sign
sign_of (pos zero) = Zero
sign_of (pos (suc n)) = Plus
sign_of (negsuc n) = Minus
