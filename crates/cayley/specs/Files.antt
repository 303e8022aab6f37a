-- Lift files: supports of points with heights, and the problem of their points.
use Rattle.std.specs.Prelude.{ℕ, List, [], ◌∷◌, Option, length, map, ℤ, pos, ◌-ℤ◌}
use Rattle.cayley.specs.Problems.{Version, version1, Point, Problem, ranked_supports}

pub record FilePoint : Type 0 where
  pub coordinates : List ℤ
  pub height : ℤ

-- starts: for each support the start heights of its corners, but for the first one and that of its own direction
pub record File : Type 0 where
  pub version : Version
  pub dimension : ℕ
  pub supports : List (List FilePoint)
  pub starts : Option (List (List ℤ))

-- a file point has its height at every time
abbrev pub resting : FilePoint → Point
resting x = record { coordinates = x.coordinates; base = x.height; speed = pos 0; rank = 0 }

-- the problem of the file's points alone
abbrev pub plain_problem : File → Problem
plain_problem file = record {
  version = file.version;
  dimension = file.dimension;
  files = map length file.supports;
  supports = ranked_supports file.version (map length file.supports) (map (map resting) file.supports);
}

-- a file point that has its height at time 0 and a second one at time 1
abbrev pub moved : FilePoint → ℤ → Point
moved x second = record { coordinates = x.coordinates; base = x.height; speed = second -ℤ x.height; rank = 0 }

abbrev pub moved_points : List FilePoint → List ℤ → List Point
moved_points [] heights = []
moved_points (x ∷ s) [] = []
moved_points (x ∷ s) (h ∷ heights) = moved x h ∷ moved_points s heights

abbrev pub moved_supports : List (List FilePoint) → List (List ℤ) → List (List Point)
moved_supports [] second = []
moved_supports (s ∷ supports) [] = []
moved_supports (s ∷ supports) (heights ∷ second) = moved_points s heights ∷ moved_supports supports second

-- the problem of the file's points, whose heights go from the file's to the second ones
abbrev pub between_problem : File → List (List ℤ) → Problem
between_problem file second = record {
  version = version1;
  dimension = file.dimension;
  files = map length file.supports;
  supports = moved_supports file.supports second;
}
