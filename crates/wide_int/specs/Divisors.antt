-- Greatest common divisors and least common multiples.
use Rattle.std.specs.Prelude.{ℕ, zero, suc, ◌%◌, ◌/◌, ◌*◌}
use Prim.Native.Nat.{◌∣◌}

-- Euclid's remainders; the first number bounds their count
unfoldable pub euclid : ℕ → ℕ → ℕ → ℕ
euclid count a zero = a
euclid zero a (suc b) = a
euclid (suc count) a (suc b) = euclid count (suc b) (a % suc b)

-- the greatest common divisor, 0 for 0 and 0
unfoldable pub gcd_of : ℕ → ℕ → ℕ
gcd_of a b = euclid b a b

-- the least common multiple of two numbers other than 0
unfoldable pub lcm_of : ℕ → ℕ → ℕ
lcm_of a b = a / gcd_of a b * b

-- a multiple of both that divides each multiple of both
abbrev pub IsLcm : ℕ → ℕ → ℕ → Type 0
IsLcm a b m = (a ∣ m) × (b ∣ m) × ((n : ℕ) → a ∣ n → b ∣ n → m ∣ n)
