-- The text of the powers of cells.
use Rattle.std.specs.Prelude.{ℕ, List, [], ◌∷◌, ◌++◌, length, map, ℤ, codes, decimal, flat_map}
use Rattle.std.specs.Fmt.{signed_decimal}
use Rattle.support_text.specs.Words.{Text, text_of}
use Rattle.listing_text.specs.Writing.{position_words}
use Rattle.homotopy_rows.specs.Powers.{Row}

-- `powers` and the powers of a support's points
abbrev pub power_words : List ℤ → List Text
power_words ws = codes "powers" ∷ map signed_decimal ws

-- `cell`, the positions, `:` and the scale
abbrev pub scale_words : Row → List Text
scale_words r = codes "cell" ∷ (position_words r.cell ++ codes ":" ∷ signed_decimal r.scale ∷ [])

-- the line of the cell, and a line for each support
abbrev pub row_lines : Row → List (List Text)
row_lines r = scale_words r ∷ map power_words r.powers

-- `homotopies K`, the lines of each cell and `end`
abbrev pub homotopy_lines : List Row → List (List Text)
homotopy_lines rows = (codes "homotopies" ∷ decimal (length rows) ∷ []) ∷ (flat_map row_lines rows ++ (codes "end" ∷ []) ∷ [])

abbrev pub homotopy_text : List Row → List ℕ
homotopy_text rows = text_of (homotopy_lines rows)
