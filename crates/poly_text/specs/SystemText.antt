-- Systems of polynomials: what their lines mean, the first faulty line and the kind of its fault.
use Rattle.std.specs.Prelude.{ℕ, List, [], ◌∷◌, map, ℤ, pos, codes, bytes_eq, unsigned_abs, Option, Some, None, Result, Ok, Err, if◌then◌else◌}
use Rattle.std.specs.Global.{Vec}
use Rattle.cayley.specs.declared.limits.TheConstants.{DIMENSIONS}
use Rattle.line_text.specs.declared.numbers.BadNumber.{BadNumber}
use Rattle.line_text.specs.Numbers.{number_in}
use Rattle.line_text.specs.Lines.{Row, lines_of, end_line_of}
use Rattle.support_text.specs.Faults.{Reading, ◌>>=◌, series}
use Rattle.support_text.specs.Words.{Text, words}
use Rattle.poly_text.specs.declared.causes.Cause.TheVariants.{Range as Past_range, Bound as Past_bound}
use Rattle.poly_text.specs.declared.fault.Kind.TheVariants.{System, Grammar, Range, Bound, Empty, Missing, Extra}
use Rattle.poly_text.specs.Faults.{fault}
use Rattle.poly_text.specs.Maps.{Monomial}
use Rattle.poly_text.specs.Bounds.{Verdict}
use Rattle.poly_text.specs.Symbols.{symbols_of, symbols_in}
use Rattle.poly_text.specs.Steps.{begun, read_from}

-- a dimension and the supports, each as a list of points
pub record PointSystem : Type 0 where
  pub dimension : ℕ
  pub supports : List (List (List ℤ))

abbrev pub size_of : Result ℤ BadNumber → Option ℕ
size_of (Ok z) = Some (unsigned_abs z)
size_of (Err e) = None

-- `system N`, with N from 1 to 16
unfoldable pub dimension_in : List Text → Option ℕ
dimension_in [] = None
dimension_in (w ∷ []) = None
dimension_in (w ∷ d ∷ []) = if bytes_eq w (codes "system") then size_of (number_in (pos 1) (pos DIMENSIONS) d) else None
dimension_in (w ∷ d ∷ e ∷ ws) = None

abbrev pub dimension_of : ℕ → Option ℕ → Reading ℕ
dimension_of line None = Err (fault line System)
dimension_of line (Some n) = Ok n

-- the first line
unfoldable pub dimension_at : ℕ → List Row → Reading (ℕ × List Row)
dimension_at end [] = Err (fault end Missing)
dimension_at end (row ∷ rows) = do
  n ← dimension_of row.number (dimension_in (words row))
  Ok (n, rows)

-- the exponents of the terms
abbrev pub support_of : List Monomial → List (List ℤ)
support_of f = map (λ t. t.0) f

-- the support of the value of a polynomial's line
abbrev pub support_in : ℕ → Option (Verdict (List Monomial)) → Reading (List (List ℤ))
support_in line None = Err (fault line Grammar)
support_in line (Some (Err Past_range)) = Err (fault line Range)
support_in line (Some (Err Past_bound)) = Err (fault line Bound)
support_in line (Some (Ok [])) = Err (fault line Empty)
support_in line (Some (Ok (t ∷ ts))) = Ok (support_of (t ∷ ts))

-- a stored support
abbrev pub support_view : Vec (List ℤ) → List (List ℤ)
support_view points = points.items

-- a polynomial's line
unfoldable pub polynomial_line : ℕ → ℕ → List Text → Reading (List (List ℤ))
polynomial_line n line ws = do
  symbols ← symbols_in line (symbols_of ws)
  support_in line (read_from n symbols (begun n))

-- the next line is a polynomial's
unfoldable pub polynomial_next : ℕ → ℕ → List Row → Reading (List (List ℤ) × List Row)
polynomial_next n end [] = Err (fault end Missing)
polynomial_next n end (row ∷ rows) = do
  support ← polynomial_line n row.number (words row)
  Ok (support, rows)

-- the same, whatever stands before
abbrev pub polynomial_at : ℕ → ℕ → List (List (List ℤ)) → List Row → Reading (List (List ℤ) × List Row)
polynomial_at n end before = polynomial_next n end

-- no line is left
unfoldable pub no_line : List Row → Reading (Unit {0})
no_line [] = Ok tt
no_line (row ∷ rows) = Err (fault row.number Extra)

-- the lines of a system
unfoldable pub system_at : ℕ → List Row → Reading PointSystem
system_at end rows = do
  n ← dimension_at end rows
  supports ← series n.0 (polynomial_at n.0 end) [] n.1
  ended ← no_line supports.1
  Ok (record { dimension = n.0; supports = supports.0 })

-- the system that the bytes mean
unfoldable pub system_of : List ℕ → Reading PointSystem
system_of bytes = system_at (end_line_of bytes) (lines_of bytes)
