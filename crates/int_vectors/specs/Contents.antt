-- The greatest common divisor of a vector's entries.
use Rattle.std.specs.Prelude.{ℕ, List, [], ◌∷◌, map, ℤ, pos, unsigned_abs, int_div}
use Prim.Native.Nat.{◌∣◌}
use Rattle.wide_int.specs.Divisors.{gcd_of}

-- the gcd of the entries, 0 where each is 0
unfoldable pub content : List ℤ → ℕ
content [] = 0
content (x ∷ xs) = gcd_of (unsigned_abs x) (content xs)

-- d divides each entry
abbrev pub DividesEach : ℕ → List ℤ → Type 0
DividesEach d [] = Unit {0}
DividesEach d (x ∷ xs) = d ∣ unsigned_abs x × DividesEach d xs

-- g is the greatest number that divides each entry, 0 where each is 0
abbrev pub IsContent : List ℤ → ℕ → Type 0
IsContent xs g = DividesEach g xs × ((d : ℕ) → DividesEach d xs → d ∣ g)

-- each entry divided by g
unfoldable pub divided : ℤ → List ℤ → List ℤ
divided g xs = map (λ x. int_div x g) xs

-- the vector divided by the gcd of its entries; a zero vector stays
unfoldable pub primitive : List ℤ → List ℤ
primitive xs = divided (pos (content xs)) xs
