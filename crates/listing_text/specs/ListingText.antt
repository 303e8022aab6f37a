-- The listing: what its lines mean, or the first faulty line and the kind of its fault.
use Rattle.std.specs.Prelude.{◌-◌, ◌^◌, ℕ, List, [], ◌∷◌, length, map, ℤ, pos, neg_ℤ, codes, unsigned_abs, nat_lt, slice_index_or, Ok, Err, if◌then◌else◌}
use Rattle.line_text.specs.Lines.{Row, lines_of, end_line_of}
use Rattle.cayley.specs.Files.{File}
use Rattle.support_text.specs.declared.fault.Kind.TheVariants.{Count, Number, Range}
use Rattle.support_text.specs.Faults.{Reading, ◌>>=◌, fault, series}
use Rattle.support_text.specs.Words.{Text, word, number, nothing_more, next_line}
use Rattle.support_text.specs.ProblemText.{end_line, problem_at, no_line}
use Rattle.listing_text.specs.declared.listing.ListedCell.{ListedCell}
use Rattle.listing_text.specs.declared.listing.CellPart.{CellPart}

-- `cells K`
unfoldable pub cells_line : ℕ → List Text → Reading ℕ
cells_line line ws = do
  rest ← word (codes "cells") Count line ws
  count ← number (pos 0) (pos 4294967295) Count Count line rest
  ended ← nothing_more Count line count.1
  Ok (unsigned_abs count.0)

-- two positions of a support of m file points, of which the first is less
unfoldable pub pair : ℕ → ℕ → List Text → Reading ((ℕ × ℕ) × List Text)
pair m line ws = do
  a ← number (pos 1) (pos m) Number Range line ws
  b ← number (pos 1) (pos m) Number Range line a.1
  if nat_lt (unsigned_abs a.0) (unsigned_abs b.0) then Ok ((unsigned_abs a.0, unsigned_abs b.0), b.1) else Err (fault line Range)

-- the pair of the next support, where the supports have so many file points
abbrev pub pair_at : List ℕ → ℕ → List (ℕ × ℕ) → List Text → Reading ((ℕ × ℕ) × List Text)
pair_at counts line before = pair (slice_index_or counts (length before) 0) line

-- a number of a normal
abbrev pub normal_entry : ℕ → List ℤ → List Text → Reading (ℤ × List Text)
normal_entry line before = number (neg_ℤ (pos (2 ^ 127 - 1))) (pos (2 ^ 127 - 1)) Number Range line

-- `cell`, a pair for each support, `:`, as many numbers, `/` and a denominator
unfoldable pub cell_line : List ℕ → ℕ → List Text → Reading ListedCell
cell_line counts line ws = do
  first ← word (codes "cell") Count line ws
  cell ← series (length counts) (pair_at counts line) [] first
  colon ← word (codes ":") Number line cell.1
  normal ← series (length counts) (normal_entry line) [] colon
  slash ← word (codes "/") Number line normal.1
  over ← number (pos 1) (pos (2 ^ 127 - 1)) Number Range line slash
  ended ← nothing_more Number line over.1
  Ok (record { line = line; cell = cell.0; normal = record { v = normal.0; den = over.0 } })

-- the next line is a cell line
abbrev pub cell_at : List ℕ → ℕ → List ListedCell → List Row → Reading (ListedCell × List Row)
cell_at counts end before = next_line (cell_line counts) end

-- the number of the next line, or of the end of input
abbrev pub next_number : ℕ → List Row → ℕ
next_number end [] = end
next_number end (row ∷ rows) = row.number

-- listed cells, with the numbers of the line `cells` before them and of the line `end` behind them
pub record Part : Type 0 where
  pub cells_line : ℕ
  pub cells : List ListedCell
  pub end_line : ℕ

-- `cells K`, K cell lines and `end`, and the lines behind that
unfoldable pub part_at : List ℕ → ℕ → List Row → Reading (Part × List Row)
part_at counts end rows = do
  count ← next_line cells_line end rows
  cells ← series count.0 (cell_at counts end) [] count.1
  last ← next_line end_line end cells.1
  Ok (record { cells_line = next_number end rows; cells = cells.0; end_line = next_number end cells.1 }, last.1)

-- the cells of a part, and no line behind it
unfoldable pub cells_at : List ℕ → ℕ → List Row → Reading (List ListedCell)
cells_at counts end rows = do
  part ← part_at counts end rows
  ended ← no_line part.1
  Ok part.0.cells

-- the cells of a part, and the lines behind it
unfoldable pub cells_through : List ℕ → ℕ → List Row → Reading (List ListedCell × List Row)
cells_through counts end rows = do
  part ← part_at counts end rows
  Ok (part.0.cells, part.1)

-- how many points each support has
abbrev pub counts_of : File → List ℕ
counts_of file = map length file.supports

-- a file and the cells that are listed for it
abbrev pub Listed : Type 0
Listed = File × List ListedCell

-- the listing that the bytes mean
unfoldable pub listing_of : List ℕ → Reading Listed
listing_of bytes = do
  file ← problem_at (end_line_of bytes) (lines_of bytes)
  cells ← cells_at (counts_of file.0) (end_line_of bytes) file.1
  Ok (file.0, cells)

-- the listing that the first lines mean, through its `end`, and the lines behind that
unfoldable pub listing_at : ℕ → List Row → Reading (Listed × List Row)
listing_at end rows = do
  file ← problem_at end rows
  cells ← cells_through (counts_of file.0) end file.1
  Ok ((file.0, cells.0), cells.1)

-- the listed cells that an answer holds, with the numbers of their lines
abbrev pub part_of : CellPart → Part
part_of x = record { cells_line = x.cells_line; cells = x.cells.items; end_line = x.end_line }
