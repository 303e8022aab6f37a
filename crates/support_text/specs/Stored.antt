-- What the code's lists of points and of start heights mean.
use Rattle.std.specs.Prelude.{List, map, ℤ, Option}
use Rattle.std.specs.Global.{Vec}
use Rattle.std.specs.Option.{option_map}
use Rattle.cayley.specs.declared.points.FilePoint.{FilePoint as StoredFilePoint}
use Rattle.cayley.specs.Stored.{file_point}
use Rattle.cayley.specs.Files.{FilePoint}

abbrev pub support_view : Vec StoredFilePoint → List FilePoint
support_view points = map file_point points.items

abbrev pub heights_view : Vec ℤ → List ℤ
heights_view heights = heights.items

abbrev pub starts_view : Option (Vec (Vec ℤ)) → Option (List (List ℤ))
starts_view starts = option_map (λ s. map heights_view s.items) starts
