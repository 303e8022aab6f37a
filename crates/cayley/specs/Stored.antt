-- What the code's versions, points, supports and start heights mean.
use Rattle.std.specs.Prelude.{ℕ, List, Option, map, ℤ}
use Rattle.cayley.specs.declared.points.FilePoint.{FilePoint as StoredFilePoint}
use Rattle.cayley.specs.declared.points.Point.{Point as StoredPoint}
use Rattle.cayley.specs.declared.points.Support.{Support}
use Rattle.cayley.specs.declared.versions.Version.{Version as StoredVersion}
use Rattle.cayley.specs.declared.versions.Version.TheVariants.{First, Second}
use Rattle.cayley.specs.Files.{FilePoint, File}
use Rattle.cayley.specs.Problems.{Version, version1, version2, Point, Problem, ranked_supports}
use Rattle.cayley.specs.declared.found.FoundCell.{FoundCell}
use Rattle.cayley.specs.Cells.{Cell}

abbrev pub version_of : StoredVersion → Version
version_of First = version1
version_of Second = version2

abbrev pub file_point : StoredFilePoint → FilePoint
file_point x = record { coordinates = x.coords; height = x.height }

abbrev pub point : StoredPoint → Point
point x = record { coordinates = x.coords; base = x.base; speed = x.speed; rank = 0 }

-- the file of a version, of supports of points and of start heights
abbrev pub file_of : Version → ℕ → List (List StoredFilePoint) → Option (List (List ℤ)) → File
file_of version dimension supports starts = record { version = version; dimension = dimension; supports = map (map file_point) supports; starts = starts }

-- the problem of supports whose first points are file points, without ranks
abbrev pub unranked_of : ℕ → List Support → Problem
unranked_of dimension supports = record {
  version = version1;
  dimension = dimension;
  files = map (λ (s : Support). s.file) supports;
  supports = map (λ (s : Support). map point s.points.items) supports;
}

-- the same in a version, with the ranks that it gives
abbrev pub problem_of : Version → ℕ → List Support → Problem
problem_of version dimension supports = record {
  version = version;
  dimension = dimension;
  files = map (λ (s : Support). s.file) supports;
  supports = ranked_supports version (map (λ (s : Support). s.file) supports) (map (λ (s : Support). map point s.points.items) supports);
}

-- a file point of a problem, with its base as its height
abbrev pub held : Point → FilePoint
held x = record { coordinates = x.coordinates; height = x.base }

abbrev pub cells_of : List FoundCell → List Cell
cells_of found = map (λ (f : FoundCell). f.cell) found
