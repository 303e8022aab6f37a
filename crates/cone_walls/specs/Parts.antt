-- The parts of the lines one by one, for the inner functions; no public clause cites them.
use Rattle.std.specs.Prelude.{◌≡◌, ℕ, zero, suc, ◌-◌, ◌≤◌, ◌==◌, nat_lt, if◌then◌else◌, List, [], ◌∷◌, ◌++◌, length, ℤ, pos, negsuc}
use Rattle.lex_height.specs.declared.part.LexPart.{LexPart}
use Rattle.lex_height.specs.Entries.{entry}
use Rattle.lex_height.specs.Values.{AreParts}
use Rattle.cayley.specs.Problems.{Point, Problem, point_at}
use Rattle.cayley.specs.Cells.{Cell}
use Rattle.cayley.specs.Dependencies.{IsFurtherAt, nth_support}
use Rattle.crossing.specs.declared.line.WallLine.{WallLine}
use Rattle.crossing.specs.declared.fine.TheConstants.{FINE_PARTS}
use Rattle.crossing.specs.Lines.{FitsLine}
use Rattle.inner_normal.specs.Coefficients.{difference, coefficients_of, numbers_of, FitsCoefficients}
use Rattle.inner_normal.specs.Inverses.{Inverse}
use Rattle.inner_normal.specs.RankedNumbers.{Ranked, ranked}
use Rattle.cone_walls.specs.Fines.{sum_of_rank}
use Rattle.cone_walls.specs.Listed.{coarse}

-- the part of a point, unless its rank or its number is 0
abbrev pub part_of : ℕ → ℤ → List LexPart
part_of zero number = []
part_of (suc rank) (pos zero) = []
part_of (suc rank) (pos (suc n)) = record { rank = suc rank; num = pos (suc n) } ∷ []
part_of (suc rank) (negsuc n) = record { rank = suc rank; num = negsuc n } ∷ []

abbrev pub parts_of : List Ranked → List LexPart
parts_of [] = []
parts_of (x ∷ xs) = part_of x.0 x.1 ++ parts_of xs

-- the two points of a pair with their numbers
abbrev pub two_points : List Point → ℕ × ℕ → ℤ × ℤ → List Ranked
two_points s pair numbers = ranked s pair.0 numbers.0 ∷ ranked s pair.1 numbers.1 ∷ []

-- the same with the further point c, in order of position
abbrev pub three_points : List Point → ℕ × ℕ → ℤ × ℤ → ℕ → ℤ → List Ranked
three_points s pair numbers c last =
    if nat_lt c pair.0 then ranked s c last ∷ ranked s pair.0 numbers.0 ∷ ranked s pair.1 numbers.1 ∷ []
    else if nat_lt c pair.1 then ranked s pair.0 numbers.0 ∷ ranked s c last ∷ ranked s pair.1 numbers.1 ∷ []
    else ranked s pair.0 numbers.0 ∷ ranked s pair.1 numbers.1 ∷ ranked s c last ∷ []

-- those of one support i; the further point is of support j
abbrev pub points_in : ℕ → ℕ → ℕ → ℤ → List Point → ℕ × ℕ → ℤ × ℤ → List Ranked
points_in i j c last s pair numbers = if i == j then three_points s pair numbers c last else two_points s pair numbers

-- those of all supports, which count from i
abbrev pub all_points : ℕ → ℕ → ℕ → ℤ → List (ℤ × ℤ) → List (List Point) → Cell → List Ranked
all_points i j c last [] supports cell = []
all_points i j c last (m ∷ ms) [] cell = []
all_points i j c last (m ∷ ms) (s ∷ supports) [] = []
all_points i j c last (m ∷ ms) (s ∷ supports) (x ∷ cell) = points_in i j c last s x m ++ all_points (suc i) j c last ms supports cell

-- the parts of the circuit of the further point c of support j, by the scaled inverse
pub record IsFineOf (p : Problem) (cell : Cell) (inverse : Inverse) (j c : ℕ) (fine : List LexPart) : Type 0 where
  pub few : length fine ≤ FINE_PARTS
  pub parts : AreParts 1 fine
  pub sum : (rank : ℕ) → entry fine rank ≡ sum_of_rank (numbers_of (coefficients_of j inverse (difference p cell j c))) p cell (point_at (nth_support p.supports j) c) rank

-- a line of a further point; supports count from 1
abbrev pub IsFurtherLine : Problem → Cell → WallLine → Type 0
IsFurtherLine p cell line = (1 ≤ line.support) × (line.support ≤ p.dimension) × IsFurtherAt p cell (line.support - 1) line.position

-- the circuit of a line's point fits
abbrev pub FitsCircuitOf : Problem → Cell → Inverse → WallLine → Type 0
FitsCircuitOf p cell inverse line = FitsCoefficients (line.support - 1) inverse (difference p cell (line.support - 1) line.position)

-- the same line with its parts
abbrev pub IsRefined : Problem → Cell → Inverse → WallLine → WallLine → Type 0
IsRefined p cell inverse line made = (coarse made ≡ coarse line) × IsFineOf p cell inverse (line.support - 1) line.position made.fine × FitsLine made

-- the same lines with their parts
abbrev pub AreRefined : Problem → Cell → Inverse → List WallLine → List WallLine → Type 0
AreRefined p cell inverse [] [] = Unit {0}
AreRefined p cell inverse [] (k ∷ made) = ⊥
AreRefined p cell inverse (l ∷ lines) [] = ⊥
AreRefined p cell inverse (l ∷ lines) (k ∷ made) = IsRefined p cell inverse l k × AreRefined p cell inverse lines made
