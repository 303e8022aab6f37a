-- The canonical text of a file.
use Rattle.std.specs.Prelude.{ℕ, List, [], ◌∷◌, ◌++◌, length, map, ℤ, codes, decimal, flat_map, Option, Some, None}
use Rattle.std.specs.Fmt.{signed_decimal}
use Rattle.cayley.specs.Problems.{Version, version1, version2}
use Rattle.cayley.specs.Files.{File, FilePoint}
use Rattle.support_text.specs.Words.{Text, text_of}

abbrev pub point_words : FilePoint → List Text
point_words x = map signed_decimal x.coordinates ++ (codes ":" ∷ signed_decimal x.height ∷ [])

-- `support M` and the points
abbrev pub support_lines : List FilePoint → List (List Text)
support_lines points = (codes "support" ∷ decimal (length points) ∷ []) ∷ map point_words points

abbrev pub start_words : List ℤ → List Text
start_words heights = codes "start" ∷ map signed_decimal heights

-- the start lines, exactly where the file gives them
abbrev pub start_lines : Option (List (List ℤ)) → List (List Text)
start_lines None = []
start_lines (Some starts) = map start_words starts

abbrev pub version_text : Version → Text
version_text version1 = codes "1"
version_text version2 = codes "2"

-- the words of each line of the file, up to and with `end`
unfoldable pub problem_lines : File → List (List Text)
problem_lines file =
    (codes "mixedcells" ∷ version_text file.version ∷ []) ∷ (codes "dim" ∷ decimal file.dimension ∷ [])
    ∷ (flat_map support_lines file.supports ++ start_lines file.starts ++ (codes "end" ∷ []) ∷ [])

abbrev pub problem_text : File → List ℕ
problem_text file = text_of (problem_lines file)
