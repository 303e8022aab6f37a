-- What the code sees of one support and of all.
use Rattle.std.specs.Prelude.{◌≡◌, ◌↔◌, ◌<◌, ◌≤◌, List, ℕ, length, ℤ, pos, IsTrue}
use Rattle.cayley.specs.declared.points.FilePoint.{FilePoint as StoredPoint}
use Rattle.cayley.specs.Stored.{file_point}
use Rattle.cayley.specs.Valid.{IsWithinFile}
use Rattle.cayley.specs.Files.{FilePoint, resting}
use Rattle.cayley.specs.Problems.{Point, Problem, point_at}
use Rattle.cayley.specs.Cells.{Cell, EachPair}
use Rattle.cell_certificate.specs.declared.sides.Sides.{Sides}
use Rattle.cell_certificate.specs.Sums.{FitsRise, FitsAt, RisesAt, UntiedAt}
use Rattle.cell_certificate.specs.Tests.{IsLevelAt}
use Rattle.cayley.specs.Resting.{rise}

-- a file point as a point of the problem of the file's points alone, without its infinitesimal
abbrev pub seen : StoredPoint → Point
seen x = resting (file_point x)

-- n coordinates and numbers within the limits
abbrev pub IsNear : ℕ → FilePoint → Type 0
IsNear n x = (length x.coordinates ≡ n) × IsWithinFile x

-- positions of two points of a support
abbrev pub IsPairOf : ℕ → ℕ × ℕ → Type 0
IsPairOf m pair = (1 ≤ pair.0) × (pair.0 < pair.1) × (pair.1 ≤ m)

-- all sums of one support fit
abbrev pub FitsSupport : ℤ → List ℤ → List Point → ℕ → ℕ → Type 0
FitsSupport den v s a b = FitsRise den v (point_at s a) (point_at s b) × ((c : ℕ) → FitsAt den v s a b c)

-- the flags tell whether both points of the pair are level, whether each further point rises, and whether none is tied
abbrev pub Shows : ℤ → List ℤ → List Point → ℕ → ℕ → Sides → Type 0
Shows den v s a b sides = (IsTrue sides.level ↔ (rise den v (point_at s a) (point_at s b) ≡ pos 0))
    × (IsTrue sides.above ↔ ((c : ℕ) → RisesAt den v s a b c))
    × (IsTrue sides.untied ↔ ((c : ℕ) → UntiedAt den v s a b c))

-- of a line: the flags tell whether v / den makes both points of each pair equal, whether each further point's sum is positive, and whether none is 0
abbrev pub ShowsAll : Problem → Cell → List ℤ → ℤ → Sides → Type 0
ShowsAll p cell v den sides = (IsTrue sides.level ↔ IsLevelAt p cell v den)
    × (IsTrue sides.above ↔ EachPair p.supports cell (λ s a b. (c : ℕ) → RisesAt den v s a b c))
    × (IsTrue sides.untied ↔ EachPair p.supports cell (λ s a b. (c : ℕ) → UntiedAt den v s a b c))
