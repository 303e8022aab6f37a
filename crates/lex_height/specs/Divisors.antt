-- Divisors of all numbers of a value.
use Rattle.std.specs.Prelude.{◌≡◌, ◌↔◌, ℕ, List, [], ◌∷◌, ℤ, ◌*ℤ◌, unsigned_abs}
use Prim.Native.Nat.{◌∣◌}
use Rattle.lex_height.specs.declared.part.LexPart.{LexPart}

-- d divides each number
abbrev pub DividesEach : ℕ → List LexPart → Type 0
DividesEach d [] = Unit {0}
DividesEach d (part ∷ parts) = (d ∣ unsigned_abs part.num) × DividesEach d parts

-- no number above 1 divides the denominator and each number
abbrev pub HaveNoDivisor : List LexPart → ℤ → Type 0
HaveNoDivisor parts den = (d : ℕ) → d ∣ unsigned_abs den → DividesEach d parts → d ≡ 1

-- the numbers that divide g are those that divide the denominator and each number
abbrev pub IsCommonGcd : List LexPart → ℤ → ℤ → Type 0
IsCommonGcd parts den g = (d : ℕ) → ((d ∣ unsigned_abs den) × DividesEach d parts) ↔ (d ∣ unsigned_abs g)

-- the same ranks, and each number is g times the first list's
abbrev pub AreQuotients : ℤ → List LexPart → List LexPart → Type 0
AreQuotients g [] [] = Unit {0}
AreQuotients g [] (part ∷ parts) = ⊥
AreQuotients g (quotient ∷ quotients) [] = ⊥
AreQuotients g (quotient ∷ quotients) (part ∷ parts) = (quotient.rank ≡ part.rank) × (g *ℤ quotient.num ≡ part.num) × AreQuotients g quotients parts
