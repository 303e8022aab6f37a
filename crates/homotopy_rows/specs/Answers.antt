-- What the answers say of the lines of a listing.
use Rattle.std.specs.Prelude.{◌≡◌, ℕ, List, Result, Ok, Err}
use Rattle.cayley.specs.Problems.{Problem}
use Rattle.cayley.specs.Files.{plain_problem}
use Rattle.listing_text.specs.declared.listing.Listing.{Listing}
use Rattle.listing_text.specs.declared.listing.ListedCell.{ListedCell}
use Rattle.homotopy_rows.specs.declared.rows.RowFault.{RowFault}
use Rattle.homotopy_rows.specs.declared.rows.RowFault.TheVariants.{Flat, OutOfMemory}
use Rattle.homotopy_rows.specs.Flat.{IsFlat, FirstFlat}
use Rattle.homotopy_rows.specs.Powers.{Row, SideBySide, ArePowers, HasLeastScale, IsZeroAtPairs}
use Rattle.homotopy_rows.specs.Writing.{homotopy_text}

abbrev pub HadMemory : {A : Type 0} → Result A RowFault → Type 0
HadMemory (Ok rows) = Unit {0}
HadMemory (Err (Flat line)) = Unit {0}
HadMemory (Err OutOfMemory) = ⊥

-- P holds of each line of the listing with its row, of which there are equally many
abbrev pub EachRow : Listing → List Row → (Problem → ListedCell → Row → Type 0) → Type 0
EachRow listing rows P = SideBySide listing.cells.items rows (P (plain_problem listing.file))

-- the text of the powers of the listing's cells, in its order
abbrev pub IsPowersText : Listing → List ℕ → Type 0
IsPowersText listing text = (rows : List Row) × (text ≡ homotopy_text rows)
    × EachRow listing rows ArePowers × EachRow listing rows HasLeastScale × EachRow listing rows (λ p x r. IsZeroAtPairs p r)

-- a fault at a line: it has a further point of the sum 0
abbrev pub IsLineFault : Type 0 → ℕ → RowFault → Type 0
IsLineFault flat line (Flat number) = flat × (line ≡ number)
IsLineFault flat line OutOfMemory = Unit {0}

-- a fault of lines: the first that has such a point
abbrev pub IsRowFault : Problem → List ListedCell → RowFault → Type 0
IsRowFault p lines (Flat number) = FirstFlat p lines number
IsRowFault p lines OutOfMemory = Unit {0}

-- the powers of a line without such a point
abbrev pub IsGood : Problem → ListedCell → Row → Type 0
IsGood p x r = ArePowers p x r × ¬ (IsFlat p x)
