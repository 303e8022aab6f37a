-- The coordinates of the points that were read.
use Rattle.std.specs.Prelude.{◌≡◌, ℤ, List}
use Rattle.std.specs.Global.{Vec}
use Rattle.std.specs.Ordering.{int_cmp}
use Rattle.std.specs.declared.cmp.Ordering.{Ordering}
use Rattle.std.specs.Cmp.Lexicographic.{slice_cmp}
use Rattle.std.specs.BTreeSet.{BTreeSet, contains}
use Rattle.cayley.specs.Files.{FilePoint}
use Rattle.support_text.specs.ProblemText.{is_among}

-- the order of two lists of coordinates
abbrev pub coordinates_cmp : Vec ℤ → Vec ℤ → Ordering
coordinates_cmp x y = slice_cmp int_cmp x.items y.items

-- the set has exactly the coordinates of the points
abbrev pub HasCoordinatesOf : BTreeSet (Vec ℤ) → List FilePoint → Type 0
HasCoordinatesOf seen points = (xs : Vec ℤ) → contains coordinates_cmp seen xs ≡ is_among xs.items points
