-- Values in lowest terms, and their order.
use Rattle.std.specs.Prelude.{◌≡◌, ◌≢◌, ℕ, suc, ◌+◌, ◌≤◌, List, [], ◌∷◌, length, ℤ, pos, ◌<ℤ◌}
use Rattle.wide_int.specs.Whole.{FitsWhole}
use Rattle.wide_int.specs.Fractions.{Fraction}
use Rattle.lex_height.specs.declared.part.TheConstants.{PARTS}
use Rattle.lex_height.specs.declared.part.LexPart.{LexPart}
use Rattle.lex_height.specs.Entries.{entry}
use Rattle.lex_height.specs.Order.{IsLess, IsSame}
use Rattle.lex_height.specs.Divisors.{HaveNoDivisor}

-- parts over one denominator
pub record Value : Type 0 where
  pub parts : List LexPart
  pub den : ℤ

-- the ranks rise, from this one on; each number fits, and none is zero
abbrev pub AreParts : ℕ → List LexPart → Type 0
AreParts rank [] = Unit {0}
AreParts rank (part ∷ parts) = (rank ≤ part.rank) × (part.num ≢ pos 0) × FitsWhole part.num × AreParts (part.rank + 1) parts

-- parts as above and not too many, over a number of at least 1 that fits
abbrev pub IsAccepted : List LexPart → ℤ → Type 0
IsAccepted parts den = (length parts ≤ PARTS) × AreParts 0 parts × (pos 0 <ℤ den) × FitsWhole den

-- no number above 1 divides the denominator and each part
abbrev pub IsLowest : Value → Type 0
IsLowest v = IsAccepted v.parts v.den × HaveNoDivisor v.parts v.den

-- v is less than w: at the least rank at which they differ
abbrev pub IsBelow : Value → Value → Type 0
IsBelow v w = IsLess (entry v.parts) v.den (entry w.parts) w.den

-- v has the value of the parts over the denominator
abbrev pub HasValue : Value → List LexPart → ℤ → Type 0
HasValue v parts den = IsSame (entry v.parts) v.den (entry parts) den

-- v has the fraction as entry 0, and 0 elsewhere
abbrev pub IsOfFraction : Value → Fraction → Type 0
IsOfFraction v f = (v.den ≡ f.den) × (entry v.parts 0 ≡ f.num) × ((k : ℕ) → entry v.parts (suc k) ≡ pos 0)

-- values in lowest terms that are the same are one
abbrev pub OneForm : Type 0
OneForm = (v w : Value) → IsLowest v → IsLowest w → HasValue v w.parts w.den → v ≡ w

-- of two values in lowest terms one is less or they are equal, never both, and less is transitive
pub record ValuesAreOrdered : Type 0 where
  pub apart : (v : Value) → ¬ (IsBelow v v)
  pub transitive : (v w x : Value) → IsLowest v → IsLowest w → IsLowest x → IsBelow v w → IsBelow w x → IsBelow v x
  pub total : (v w : Value) → IsLowest v → IsLowest w → ¬ (IsBelow v w) → ¬ (IsBelow w v) → v ≡ w
