-- The text of a listing.
use Rattle.std.specs.Prelude.{ℕ, List, [], ◌∷◌, ◌++◌, length, map, codes, decimal, flat_map}
use Rattle.std.specs.Fmt.{signed_decimal}
use Rattle.cayley.specs.Files.{File}
use Rattle.cayley.specs.Cells.{Cell}
use Rattle.cayley.specs.declared.found.FoundCell.{FoundCell}
use Rattle.support_text.specs.Words.{Text, text_of}
use Rattle.support_text.specs.Writing.{problem_lines}

-- the two positions of each pair
abbrev pub position_words : Cell → List Text
position_words cell = flat_map (λ pair. decimal pair.0 ∷ decimal pair.1 ∷ []) cell

-- `cell`, the positions, `:`, the normal, `/` and its denominator
abbrev pub cell_words : FoundCell → List Text
cell_words x = codes "cell" ∷ (position_words x.cell ++ codes ":" ∷ (map signed_decimal x.normal.v ++ codes "/" ∷ signed_decimal x.normal.den ∷ []))

-- behind the file: `cells K`, the cell lines and `end`
abbrev pub cells_lines : List FoundCell → List (List Text)
cells_lines found = (codes "cells" ∷ decimal (length found) ∷ []) ∷ (map cell_words found ++ (codes "end" ∷ []) ∷ [])

-- the words of each line of the listing
abbrev pub listing_lines : File → List FoundCell → List (List Text)
listing_lines file found = problem_lines file ++ cells_lines found

abbrev pub listing_text : File → List FoundCell → List ℕ
listing_text file found = text_of (listing_lines file found)
