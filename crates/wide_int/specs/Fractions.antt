-- Fractions in lowest terms.
use Rattle.std.specs.Prelude.{◌≡◌, ℤ, pos, ◌<ℤ◌, ◌*ℤ◌, unsigned_abs}
use Rattle.std.specs.Int.{IsGcd}
use Rattle.wide_int.specs.Whole.{FitsWhole}

-- numerator and denominator
pub record Fraction : Type 0 where
  pub num : ℤ
  pub den : ℤ

-- the denominator is positive, no number above 1 divides both, and both fit
abbrev pub IsLowest : Fraction → Type 0
IsLowest f = (pos 0 <ℤ f.den) × IsGcd (unsigned_abs f.num) (unsigned_abs f.den) 1 × FitsWhole f.num × FitsWhole f.den

-- f has the value a / b
abbrev pub IsFraction : Fraction → ℤ → ℤ → Type 0
IsFraction f a b = f.num *ℤ b ≡ a *ℤ f.den

-- f is less than g; both denominators are positive
abbrev pub IsBelow : Fraction → Fraction → Type 0
IsBelow f g = (f.num *ℤ g.den) <ℤ (g.num *ℤ f.den)

-- fractions in lowest terms of one value are one
abbrev pub OneForm : Type 0
OneForm = (f g : Fraction) → IsLowest f → IsLowest g → IsFraction f g.num g.den → f ≡ g

-- of two fractions in lowest terms one is less or they are equal, never both, and less is transitive
pub record FractionsAreOrdered : Type 0 where
  pub apart : (f : Fraction) → ¬ (IsBelow f f)
  pub transitive : (f g h : Fraction) → IsLowest f → IsLowest g → IsLowest h → IsBelow f g → IsBelow g h → IsBelow f h
  pub total : (f g : Fraction) → IsLowest f → IsLowest g → ¬ (IsBelow f g) → ¬ (IsBelow g f) → f ≡ g
