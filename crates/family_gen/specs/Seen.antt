-- The coordinates of the points that were made, and the set that keeps them.
use Rattle.std.specs.Prelude.{◌≡◌, ℕ, List, map, unsigned_abs}
use Rattle.std.specs.Global.{Vec}
use Rattle.std.specs.Ordering.{nat_cmp}
use Rattle.std.specs.declared.cmp.Ordering.{Ordering}
use Rattle.std.specs.Cmp.Lexicographic.{slice_cmp}
use Rattle.std.specs.BTreeSet.{BTreeSet, contains}
use Rattle.cayley.specs.Files.{FilePoint}
use Rattle.family_gen.specs.Scatter.{is_among}

-- the coordinates of a point, none of which is negative
abbrev pub coordinates_of : FilePoint → List ℕ
coordinates_of x = map unsigned_abs x.coordinates

-- the order of two lists of coordinates
abbrev pub coordinates_cmp : Vec ℕ → Vec ℕ → Ordering
coordinates_cmp x y = slice_cmp nat_cmp x.items y.items

-- the set has exactly the coordinates of the points
abbrev pub HasCoordinatesOf : BTreeSet (Vec ℕ) → List FilePoint → Type 0
HasCoordinatesOf seen points = (xs : Vec ℕ) → contains coordinates_cmp seen xs ≡ is_among xs.items (map coordinates_of points)
