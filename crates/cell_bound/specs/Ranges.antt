-- Bounds under which no number of a cell's working is too great: of one cell, and of all cells of a problem.
use Rattle.std.specs.Prelude.{◌≡◌, max, ℕ, ◌+◌, ◌*◌, ◌<◌, ◌≤◌, ◌^◌, List, [], ◌∷◌, length, ◌-ℤ◌, unsigned_abs}
use Rattle.int_vectors.specs.Vectors.{sub}
use Rattle.int_vectors.specs.Bounds.{size}
use Rattle.reduced_rows.specs.CellRefusals.{FitsBeyond}
use Rattle.cayley.specs.Problems.{Point, Problem, IsProblem, point_at}
use Rattle.cayley.specs.Cells.{Cell, EachPair, IsOf, IsFurther}
use Rattle.cayley.specs.Dependencies.{IsFurtherAt}
use Rattle.cayley.specs.Rows.{edge_rows}
use Rattle.inner_normal.specs.Coefficients.{FitsCircuit}
use Rattle.cone_walls.specs.Workings.{FitsRest}
use Rattle.elimination_bound.specs.Bounds.{HaveBounds, product, sum_over}

-- the elimination of the cell's rows fits, and where it doesn't end with a kernel, normal, wall lines and the circuits of all further points fit too
abbrev pub FitsWhole : Problem → Cell → Type 0
FitsWhole p cell = FitsBeyond p.dimension (edge_rows p cell) (λ made. FitsRest p cell made × ((j c : ℕ) → IsFurtherAt p cell j c → FitsCircuit p cell j c made))

-- ---- one cell
-- two numbers above the bounds of the cell's rows, under which the elimination and the normal fit
abbrev pub RowsFit : (front further : ℕ) → Problem → Cell → Type 0
RowsFit front further p cell = HaveBounds p.dimension (edge_rows p cell) front further × (2 * (front * max front further) < 2 ^ 127)

-- the wall line and the circuit of c against a fit: the denominator is at most front, each number of the normal and the inverse at most further
abbrev pub PointBelow : (front further : ℕ) → Point → Point → Type 0
PointBelow front further a c =
    let d = size (sub c.coordinates a.coordinates) * further in
    (front * unsigned_abs (c.base -ℤ a.base) + d < 2 ^ 127) × (front * unsigned_abs (c.speed -ℤ a.speed) + d < 2 ^ 127) × (d + front < 2 ^ 127)

-- those of all further points
abbrev pub PointsBelow : (front further : ℕ) → Problem → Cell → Type 0
PointsBelow front further p cell = EachPair p.supports cell (λ s a b. (c : ℕ) → IsFurther s a b c → PointBelow front further (point_at s a) (point_at s c))

-- the whole working of the cell fits
abbrev pub CellFits : Type 0
CellFits = (p : Problem) (cell : Cell) (front further : ℕ) → IsProblem p → IsOf p cell → RowsFit front further p cell → PointsBelow front further p cell → FitsWhole p cell

-- ---- all cells of a problem
-- two points differ by at most f in the sum of their coordinates, and by at most h in bases and in speeds
abbrev pub AreNear : ℕ → ℕ → Point → Point → Type 0
AreNear f h a c =
    (size (sub c.coordinates a.coordinates) ≤ f)
    × (unsigned_abs (c.base -ℤ a.base) ≤ h)
    × (unsigned_abs (c.speed -ℤ a.speed) ≤ h)

-- any two points of the support do
abbrev pub HasRange : ℕ → ℕ → List Point → Type 0
HasRange f h s = (a c : ℕ) → 1 ≤ a → a ≤ length s → 1 ≤ c → c ≤ length s → AreNear f h (point_at s a) (point_at s c)

-- all points of the support are near the one at a position
abbrev pub AreAround : ℕ → ℕ → List Point → ℕ → Type 0
AreAround f h s a = (c : ℕ) → 1 ≤ c → c ≤ length s → AreNear f h (point_at s a) (point_at s c)

-- each support has the range of its place, of numbers that are at least 1
abbrev pub HaveRanges : (fs hs : List ℕ) → List (List Point) → Type 0
HaveRanges [] [] [] = Unit {0}
HaveRanges [] [] (s ∷ supports) = ⊥
HaveRanges [] (h ∷ hs) supports = ⊥
HaveRanges (f ∷ fs) [] supports = ⊥
HaveRanges (f ∷ fs) (h ∷ hs) [] = ⊥
HaveRanges (f ∷ fs) (h ∷ hs) (s ∷ supports) = ((1 ≤ f) × (1 ≤ h) × HasRange f h s) × HaveRanges fs hs supports

-- the product of the numbers fs of some ranges of the supports, and the sum of each h by the other fs
abbrev pub AreBounds : List (List Point) → (front further : ℕ) → Type 0
AreBounds supports front further = (fs hs : List ℕ) × HaveRanges fs hs supports × (product fs ≡ front) × (sum_over hs fs ≡ further)

-- twice the product of the fs, times that or the sum of each h by the other fs, is below the limit
abbrev pub FitsByRanges : (fs hs : List ℕ) → Problem → Type 0
FitsByRanges fs hs p = HaveRanges fs hs p.supports × (2 * (product fs * max (product fs) (sum_over hs fs)) < 2 ^ 127)

-- then the whole working of every cell fits
abbrev pub CellsFit : Type 0
CellsFit = (p : Problem) (fs hs : List ℕ) → IsProblem p → FitsByRanges fs hs p → (cell : Cell) → IsOf p cell → FitsWhole p cell
