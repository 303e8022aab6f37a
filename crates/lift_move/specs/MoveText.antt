-- The move file: a listing of version 1, then second heights for each support; what its lines mean, or the first faulty line and the kind of its fault.
use Rattle.std.specs.Prelude.{◌≡◌, ℕ, List, [], length, map, ℤ, pos, neg_ℤ, codes, slice_index_or, Ok}
use Rattle.std.specs.Global.{Vec}
use Rattle.line_text.specs.Lines.{Row, lines_of, end_line_of}
use Rattle.cayley.specs.declared.limits.TheConstants.{HEIGHT}
use Rattle.support_text.specs.declared.fault.Kind.TheVariants.{Header, Count, Number, Range}
use Rattle.support_text.specs.Faults.{Reading, ◌>>=◌, series}
use Rattle.support_text.specs.Words.{Text, word, number, nothing_more, next_line}
use Rattle.support_text.specs.ProblemText.{end_line, no_line}
use Rattle.support_text.specs.Stored.{heights_view}
use Rattle.listing_text.specs.ListingText.{Listed, counts_of, listing_at}
use Rattle.lift_move.specs.declared.reading.MoveFile.{MoveFile}

-- `mixedcells 1`
unfoldable pub first_header : ℕ → List Text → Reading (Unit {0})
first_header line ws = do
  name ← word (codes "mixedcells") Header line ws
  version ← word (codes "1") Header line name
  nothing_more Header line version

-- a second height
abbrev pub second_height : ℕ → List ℤ → List Text → Reading (ℤ × List Text)
second_height line before = number (neg_ℤ (pos HEIGHT)) (pos HEIGHT) Number Range line

-- `heights` and m second heights
unfoldable pub heights_line : ℕ → ℕ → List Text → Reading (List ℤ)
heights_line m line ws = do
  rest ← word (codes "heights") Count line ws
  heights ← series m (second_height line) [] rest
  ended ← nothing_more Number line heights.1
  Ok heights.0

-- the next line has the second heights of the next support, where the supports have so many points
abbrev pub heights_at : List ℕ → ℕ → List (List ℤ) → List Row → Reading (List ℤ × List Row)
heights_at counts end before = next_line (heights_line (slice_index_or counts (length before) 0)) end

-- a line of second heights for each support, and `end` as the last line
unfoldable pub second_at : List ℕ → ℕ → List Row → Reading (List (List ℤ))
second_at counts end rows = do
  second ← series (length counts) (heights_at counts end) [] rows
  last ← next_line end_line end second.1
  ended ← no_line last.1
  Ok second.0

-- a listing and second heights
abbrev pub Move : Type 0
Move = Listed × List (List ℤ)

-- the move file that the bytes mean
unfoldable pub move_of : List ℕ → Reading Move
move_of bytes = do
  header ← next_line first_header (end_line_of bytes) (lines_of bytes)
  listing ← listing_at (end_line_of bytes) (lines_of bytes)
  second ← second_at (counts_of listing.0.0) (end_line_of bytes) listing.1
  Ok (listing.0, second)

-- what the code's move file means
abbrev pub move_view : MoveFile → Move
move_view m = ((m.listing.file, m.listing.cells.items), map heights_view m.second.items)
