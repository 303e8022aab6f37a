-- The problem file: what its lines mean, or the first faulty line and the kind of its fault.
use Rattle.std.specs.Prelude.{ℕ, ◌-◌, Bool, List, [], ◌∷◌, ℤ, pos, neg_ℤ, codes, bytes_eq, unsigned_abs, Option, Some, None, Ok, Err, if◌then◌else◌}
use Rattle.std.specs.List.{list_any}
use Rattle.std.specs.Ordering.{int_eq}
use Rattle.std.specs.Cmp.Lexicographic.{pointwise}
use Rattle.line_text.specs.Lines.{Row, lines_of, end_line_of}
use Rattle.cayley.specs.Problems.{Version, version1, version2}
use Rattle.cayley.specs.declared.limits.TheConstants.{DIMENSIONS, POINTS, COORDINATE, HEIGHT}
use Rattle.cayley.specs.Files.{File, FilePoint}
use Rattle.support_text.specs.declared.fault.Kind.{Kind}
use Rattle.support_text.specs.declared.fault.Kind.TheVariants.{Header, Dim, Count, Number, Range, Repeated, Start, Missing, Extra}
use Rattle.support_text.specs.declared.opening.Opening.{Opening}
use Rattle.support_text.specs.declared.opening.Opening.TheVariants.{End as Opens_end, Start as Opens_start, Other}
use Rattle.support_text.specs.Faults.{Reading, ◌>>=◌, fault, series}
use Rattle.support_text.specs.Words.{Text, words, word, number, nothing_more, next_line}

-- `1` or `2`
unfoldable pub version_word : ℕ → List Text → Reading (Version × List Text)
version_word line [] = Err (fault line Header)
version_word line (w ∷ ws) =
    if bytes_eq w (codes "1") then Ok (version1, ws) else (if bytes_eq w (codes "2") then Ok (version2, ws) else Err (fault line Header))

-- `mixedcells 1` or `mixedcells 2`
unfoldable pub header_line : ℕ → List Text → Reading Version
header_line line ws = do
  rest ← word (codes "mixedcells") Header line ws
  version ← version_word line rest
  ended ← nothing_more Header line version.1
  Ok version.0

-- a word and one number from 1 to a limit
unfoldable pub counting_line : Text → ℤ → Kind → ℕ → List Text → Reading ℕ
counting_line text limit kind line ws = do
  rest ← word text kind line ws
  count ← number (pos 1) limit kind kind line rest
  ended ← nothing_more kind line count.1
  Ok (unsigned_abs count.0)

-- `dim N`
abbrev pub dim_line : ℕ → List Text → Reading ℕ
dim_line = counting_line (codes "dim") (pos DIMENSIONS) Dim

-- `support M`
abbrev pub count_line : ℕ → List Text → Reading ℕ
count_line = counting_line (codes "support") (pos POINTS) Count

-- a coordinate
abbrev pub coordinate : ℕ → List ℤ → List Text → Reading (ℤ × List Text)
coordinate line before = number (neg_ℤ (pos COORDINATE)) (pos COORDINATE) Number Range line

-- n coordinates
abbrev pub coordinates : ℕ → ℕ → List Text → Reading (List ℤ × List Text)
coordinates n line = series n (coordinate line) []

-- a point of these coordinates is among the points
abbrev pub is_among : List ℤ → List FilePoint → Bool
is_among xs points = list_any (λ (x : FilePoint). pointwise int_eq x.coordinates xs) points

-- n coordinates, `:` and a height; the coordinates are those of no earlier point
unfoldable pub point_line : ℕ → List FilePoint → ℕ → List Text → Reading FilePoint
point_line n earlier line ws = do
  xs ← coordinates n line ws
  rest ← word (codes ":") Number line xs.1
  height ← number (neg_ℤ (pos HEIGHT)) (pos HEIGHT) Number Range line rest
  ended ← nothing_more Number line height.1
  if is_among xs.0 earlier then Err (fault line Repeated) else Ok (record { coordinates = xs.0; height = height.0 })

-- the next line is a point line
abbrev pub point_at : ℕ → ℕ → List FilePoint → List Row → Reading (FilePoint × List Row)
point_at n end earlier = next_line (point_line n earlier) end

-- `support M` and M point lines
unfoldable pub support : ℕ → ℕ → List Row → Reading (List FilePoint × List Row)
support n end rows = do
  count ← next_line count_line end rows
  series count.0 (point_at n end) [] count.1

-- the next lines are a support
abbrev pub support_at : ℕ → ℕ → List (List FilePoint) → List Row → Reading (List FilePoint × List Row)
support_at n end before = support n end

-- n supports
abbrev pub supports : ℕ → ℕ → List Row → Reading (List (List FilePoint) × List Row)
supports n end = series n (support_at n end) []

-- a start height
abbrev pub start_height : ℕ → List ℤ → List Text → Reading (ℤ × List Text)
start_height line before = number (pos 1) (pos HEIGHT) Start Start line

-- n - 1 start heights
unfoldable pub start_heights : ℕ → ℕ → List Text → Reading (List ℤ)
start_heights n line ws = do
  heights ← series (n - 1) (start_height line) [] ws
  ended ← nothing_more Start line heights.1
  Ok heights.0

-- `start` and the heights
unfoldable pub start_line : ℕ → ℕ → List Text → Reading (List ℤ)
start_line n line ws = do
  rest ← word (codes "start") Start line ws
  start_heights n line rest

-- the next line is a start line
abbrev pub start_at : ℕ → ℕ → List (List ℤ) → List Row → Reading (List ℤ × List Row)
start_at n end before = next_line (start_line n) end

-- `end`, this word alone
unfoldable pub end_line : ℕ → List Text → Reading (Unit {0})
end_line line ws = do
  rest ← word (codes "end") Extra line ws
  nothing_more Extra line rest

-- how the words of a line behind the last support begin, and the words behind that
abbrev pub opening : List Text → Opening × List Text
opening [] = (Other, [])
opening (w ∷ ws) = if bytes_eq w (codes "end") then (Opens_end, ws) else (if bytes_eq w (codes "start") then (Opens_start, ws) else (Other, ws))

-- n start lines, of which the first is open, and `end`
unfoldable pub starts_and_end : ℕ → ℕ → ℕ → List Text → List Row → Reading (Option (List (List ℤ)) × List Row)
starts_and_end n end line ws rows = do
  first ← start_heights n line ws
  starts ← series (n - 1) (start_at n end) (first ∷ []) rows
  last ← next_line end_line end starts.1
  Ok (Some starts.0, last.1)

-- `end` without start lines
unfoldable pub end_alone : ℕ → List Text → List Row → Reading (Option (List (List ℤ)) × List Row)
end_alone line ws rows = do
  ended ← nothing_more Extra line ws
  Ok (None, rows)

-- a line that begins with `end` is judged as `end`, one that begins with `start` as the first start line
unfoldable pub ending_of : ℕ → ℕ → ℕ → Opening × List Text → List Row → Reading (Option (List (List ℤ)) × List Row)
ending_of n end line (Opens_end, ws) rows = end_alone line ws rows
ending_of n end line (Opens_start, ws) rows = starts_and_end n end line ws rows
ending_of n end line (Other, ws) rows = Err (fault line Start)

-- what stands behind the last support
unfoldable pub ending : ℕ → ℕ → List Row → Reading (Option (List (List ℤ)) × List Row)
ending n end [] = Err (fault end Missing)
ending n end (row ∷ rows) = ending_of n end row.number (opening (words row)) rows

-- a problem file up to and with its `end`, and the lines behind it
unfoldable pub problem_at : ℕ → List Row → Reading (File × List Row)
problem_at end rows = do
  version ← next_line header_line end rows
  n ← next_line dim_line end version.1
  points ← supports n.0 end n.1
  starts ← ending n.0 end points.1
  Ok (record { version = version.0; dimension = n.0; supports = points.0; starts = starts.0 }, starts.1)

-- no line with words is left
unfoldable pub no_line : List Row → Reading (Unit {0})
no_line [] = Ok tt
no_line (row ∷ rows) = Err (fault row.number Extra)

-- the file that the bytes mean
unfoldable pub problem_of : List ℕ → Reading File
problem_of bytes = do
  file ← problem_at (end_line_of bytes) (lines_of bytes)
  ended ← no_line file.1
  Ok file.0
