-- Whole numbers that fit 128 bits.
use Rattle.std.specs.Prelude.{ℤ, ◌*ℤ◌, ◌-ℤ◌, ◌<◌, ◌^◌, unsigned_abs}

-- the absolute value is at most 2^127 - 1
abbrev pub FitsWhole : ℤ → Type 0
FitsWhole z = unsigned_abs z < 2 ^ 127

-- both products and the difference of a b - c d fit
abbrev pub FitsMulSub : ℤ → ℤ → ℤ → ℤ → Type 0
FitsMulSub a b c d = FitsWhole (a *ℤ b) × FitsWhole (c *ℤ d) × FitsWhole (a *ℤ b -ℤ c *ℤ d)
