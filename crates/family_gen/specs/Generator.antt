-- The generator's numbers, and the heights and coordinates that they give.
use Rattle.std.specs.Prelude.{ℕ, zero, suc, ◌+◌, ◌*◌, ◌/◌, ◌%◌, ◌^◌}

-- a number is followed by a times it and c more, modulo 2^64
unfoldable pub following : ℕ → ℕ
following x = (6364136223846793005 * x + 1442695040888963407) % 2 ^ 64

-- the n-th number that is drawn; the seed stands before the first
unfoldable pub number : ℕ → ℕ → ℕ
number seed zero = seed
number seed (suc n) = following (number seed n)

-- the height of a number
unfoldable pub height_of : ℕ → ℕ
height_of x = x / 2 ^ 40

-- the coordinate of a number, from 0 to side
unfoldable pub coordinate_of : ℕ → ℕ → ℕ
coordinate_of side x = (x / 2 ^ 33) % (side + 1)
