-- Which points the lines are of, and their numbers.
use Rattle.std.specs.Prelude.{◌≡◌, ◌⊎◌, ◌↔◌, ℕ, ◌-◌, ◌<◌, ◌≤◌, List, [], ◌∷◌}
use Rattle.int_vectors.specs.Vectors.{Each}
use Rattle.cayley.specs.Problems.{Problem, point_at}
use Rattle.cayley.specs.Cells.{Cell}
use Rattle.cayley.specs.Dependencies.{pair_at, IsFurtherAt, nth_support}
use Rattle.crossing.specs.declared.line.WallLine.{WallLine}
use Rattle.inner_normal.specs.declared.moving.MovingNormal.{MovingNormal}
use Rattle.cone_walls.specs.Numbers.{alpha, beta}

-- of an earlier support, or of one support and an earlier position
abbrev pub IsEarlier : WallLine → WallLine → Type 0
IsEarlier l k = (l.support < k.support) ⊎ ((l.support ≡ k.support) × (l.position < k.position))

abbrev pub AreInOrder : List WallLine → Type 0
AreInOrder [] = Unit {0}
AreInOrder (l ∷ lines) = Each lines (IsEarlier l) × AreInOrder lines

-- a line is of the point at a position of support j
abbrev pub HasLine : List WallLine → ℕ → ℕ → Type 0
HasLine [] j c = ⊥
HasLine (l ∷ lines) j c = ((l.support ≡ j) × (l.position ≡ c)) ⊎ HasLine lines j c

-- one line for each further point, and no other, in order of support and position, which count from 1
abbrev pub AreOfFurtherPoints : Problem → Cell → List WallLine → Type 0
AreOfFurtherPoints p cell lines = AreInOrder lines × ((j c : ℕ) → HasLine lines j c ↔ ((1 ≤ j) × IsFurtherAt p cell (j - 1) c))

-- the line's numbers are those of its point against the first point of its support's pair
abbrev pub HasNumbers : Problem → Cell → MovingNormal → WallLine → Type 0
HasNumbers p cell m line =
    let s = nth_support p.supports (line.support - 1) in
    let a = point_at s (pair_at cell (line.support - 1)).0 in
    let c = point_at s line.position in
    (line.alpha ≡ alpha m a c) × (line.beta ≡ beta m a c)
