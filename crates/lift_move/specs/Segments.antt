-- Segments: problems whose points go straight from one lift at time 0 to another at time 1.
use Rattle.std.specs.Prelude.{◌≡◌, ℕ, List, [], ◌∷◌, map, ℤ, pos, ◌+ℤ◌}
use Rattle.cayley.specs.Times.{Time, IsBefore, time_zero}
use Rattle.cayley.specs.Problems.{version1, Point, Problem, HasNoCorners}
use Rattle.cayley.specs.Files.{FilePoint, File}
use Rattle.cayley.specs.Cells.{Cell, IsOf, IsIndependent}
use Rattle.cayley.specs.Normals.{Normal, IsNormal, NoneBelow}
use Rattle.cayley.specs.Ties.{IsLevelAt, IsUntied}
use Rattle.searcher.specs.Passes.{time_one}

-- of version 1 and without corners, as a problem between two lifts is
abbrev pub IsSegment : Problem → Type 0
IsSegment p = (p.version ≡ version1) × HasNoCorners p

-- the point at rest with the height that it has at time 1
abbrev pub arrived : Point → Point
arrived x = record x { base = x.base +ℤ x.speed; speed = pos 0 }

-- the problem of the points at rest with their heights at time 1
abbrev pub end_of : Problem → Problem
end_of p = record p { supports = map (map arrived) p.supports }

-- the point at rest with the height that it has at time 0
abbrev pub departing : Point → Point
departing x = record x { speed = pos 0 }

-- the problem of the points at rest with their heights at time 0
abbrev pub start_of : Problem → Problem
start_of p = record p { supports = map (map departing) p.supports }

-- no tie at a time from 0 to 1, and no further point level at time 0 where none is below
abbrev pub IsGeneric : Problem → Type 0
IsGeneric p = ((cell : Cell) (t : Time) → ¬ (IsBefore t time_zero) → ¬ (IsBefore time_one t) → IsUntied p cell t)
    × ((cell : Cell) (v : Normal) (j c : ℕ) → IsOf p cell → IsIndependent p cell → IsNormal p cell time_zero v → NoneBelow p cell time_zero v → ¬ (IsLevelAt p cell time_zero v j c))

-- the point with another height
abbrev pub lifted : FilePoint → ℤ → FilePoint
lifted x h = record x { height = h }

abbrev pub lifted_points : List FilePoint → List ℤ → List FilePoint
lifted_points [] heights = []
lifted_points (x ∷ s) [] = []
lifted_points (x ∷ s) (h ∷ heights) = lifted x h ∷ lifted_points s heights

abbrev pub lifted_supports : List (List FilePoint) → List (List ℤ) → List (List FilePoint)
lifted_supports [] second = []
lifted_supports (s ∷ supports) [] = []
lifted_supports (s ∷ supports) (heights ∷ second) = lifted_points s heights ∷ lifted_supports supports second

-- the file with the second heights
abbrev pub second_of : File → List (List ℤ) → File
second_of file second = record file { supports = lifted_supports file.supports second }
