-- Which bytes are a system, and which line is the first faulty one.
use Rattle.std.specs.Prelude.{◌≡◌, ◌≢◌, ◌⊎◌, ◌<◌, ◌≤◌, ℕ, List, [], ◌∷◌, ◌++◌, length, ℤ, Some, None, Result, Ok, Err}
use Rattle.int_vectors.specs.Vectors.{Each}
use Rattle.cayley.specs.declared.limits.TheConstants.{DIMENSIONS, POINTS}
use Rattle.cayley.specs.Valid.{AreDistinct, IsCoordinate}
use Rattle.line_text.specs.Lines.{Row, lines_of, end_line_of}
use Rattle.support_text.specs.declared.fault.FormatFault.{FormatFault}
use Rattle.support_text.specs.declared.fault.TextFault.{TextFault}
use Rattle.support_text.specs.declared.fault.TextFault.TheVariants.{Format, OutOfMemory}
use Rattle.support_text.specs.Words.{Text, words}
use Rattle.poly_text.specs.declared.causes.Cause.TheVariants.{Bound as Past_bound}
use Rattle.poly_text.specs.declared.fault.Kind.{Kind}
use Rattle.poly_text.specs.declared.fault.Kind.TheVariants.{System, Grammar, Range, Bound, Empty, Missing, Extra}
use Rattle.poly_text.specs.Faults.{fault}
use Rattle.poly_text.specs.Symbols.{symbols_of}
use Rattle.poly_text.specs.Trees.{Polynomial, written, meaning}
use Rattle.poly_text.specs.Values.{IsSupport, value}
use Rattle.poly_text.specs.Ranges.{InRange}
use Rattle.poly_text.specs.SystemText.{PointSystem, dimension_in}

-- the words of a line write the polynomial
abbrev pub Writes : List Text → Polynomial → Type 0
Writes ws p = symbols_of ws ≡ Some (written p)

-- a bound is broken where the polynomial is worked out
abbrev pub BreaksBound : ℕ → Polynomial → Type 0
BreaksBound n p = meaning n 0 p ≡ Err Past_bound

-- the words are a polynomial with this support
pub record IsPolynomial (n : ℕ) (ws : List Text) (points : List (List ℤ)) : Type 0 where
  pub polynomial : Polynomial
  pub written : Writes ws polynomial
  pub range : InRange n polynomial
  pub bounds : ¬ (BreaksBound n polynomial)
  pub support : IsSupport n (value n polynomial) points
  pub some : points ≢ []

-- what is wrong with the words of a polynomial's line
abbrev pub IsWrong : ℕ → List Text → Kind → Type 0
IsWrong n ws Grammar = (p : Polynomial) → ¬ (Writes ws p)
IsWrong n ws Range = (p : Polynomial) × Writes ws p × ¬ (InRange n p)
IsWrong n ws Bound = (p : Polynomial) × Writes ws p × InRange n p × BreaksBound n p
IsWrong n ws Empty = (p : Polynomial) × Writes ws p × InRange n p × (¬ (BreaksBound n p)) × IsSupport n (value n p) []
IsWrong n ws System = ⊥
IsWrong n ws Missing = ⊥
IsWrong n ws Extra = ⊥

-- the lines are polynomials with these supports, one by one
unfoldable pub ArePolynomials : ℕ → List Row → List (List (List ℤ)) → Type 0
ArePolynomials n [] [] = Unit {0}
ArePolynomials n [] (s ∷ ss) = ⊥
ArePolynomials n (row ∷ rows) [] = ⊥
ArePolynomials n (row ∷ rows) (s ∷ ss) = IsPolynomial n (words row) s × ArePolynomials n rows ss

-- the bytes are a line `system N` and N polynomials with these supports
pub record IsSystem (bytes : List ℕ) (system : PointSystem) : Type 0 where
  pub first : Row
  pub others : List Row
  pub lines : lines_of bytes ≡ first ∷ others
  pub dimension : dimension_in (words first) ≡ Some system.dimension
  pub count : length system.supports ≡ system.dimension
  pub polynomials : ArePolynomials system.dimension others system.supports

-- the fault of the lines behind so many polynomials of n
abbrev pub FaultBehind : ℕ → ℕ → ℕ → List Row → FormatFault → Type 0
FaultBehind end n count [] f = (count < n) × (f ≡ fault end Missing)
FaultBehind end n count (row ∷ rows) f = ((count < n) × (kind : Kind) × IsWrong n (words row) kind × (f ≡ fault row.number kind)) ⊎ ((count ≡ n) × (f ≡ fault row.number Extra))

-- the fault stands behind a line `system N` and some polynomials
pub record IsFaultOfPolynomials (bytes : List ℕ) (f : FormatFault) : Type 0 where
  pub first : Row
  pub right : List Row
  pub others : List Row
  pub n : ℕ
  pub supports : List (List (List ℤ))
  pub lines : lines_of bytes ≡ first ∷ (right ++ others)
  pub dimension : dimension_in (words first) ≡ Some n
  pub polynomials : ArePolynomials n right supports
  pub fault : FaultBehind (end_line_of bytes) n (length right) others f

-- the fault is that of the first line
abbrev pub FaultOfFirst : ℕ → List Row → FormatFault → Type 0
FaultOfFirst end [] f = f ≡ fault end Missing
FaultOfFirst end (row ∷ rows) f = (dimension_in (words row) ≡ None) × (f ≡ fault row.number System)

-- the first faulty line of the bytes and its kind
abbrev pub IsFirstFault : List ℕ → FormatFault → Type 0
IsFirstFault bytes f = FaultOfFirst (end_line_of bytes) (lines_of bytes) f ⊎ IsFaultOfPolynomials bytes f

-- memory sufficed
abbrev pub HadMemory : {A : Type 0} → Result A TextFault → Type 0
HadMemory (Ok x) = Unit {0}
HadMemory (Err (Format f)) = Unit {0}
HadMemory (Err OutOfMemory) = ⊥

-- what a problem file asks of its points: how many they are, how long, within their limits, and none twice
pub record AreSupports (system : PointSystem) : Type 0 where
  pub dimension : (1 ≤ system.dimension) × (system.dimension ≤ DIMENSIONS)
  pub count : length system.supports ≡ system.dimension
  pub counts : Each system.supports (λ s. (1 ≤ length s) × (length s ≤ POINTS))
  pub points : Each system.supports (λ s. Each s (λ x. length x ≡ system.dimension))
  pub limits : Each system.supports (λ s. Each s (λ x. Each x IsCoordinate))
  pub distinct : Each system.supports (λ s. AreDistinct s)
