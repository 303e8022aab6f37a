-- Further points of the sum 0: there the perturbation alone tells above from level, and no power does.
use Rattle.std.specs.Prelude.{◌≡◌, ◌⊎◌, ℕ, List, [], ◌∷◌, ℤ}
use Rattle.cayley.specs.Cells.{Cell}
use Rattle.cayley.specs.Problems.{Point, Problem}
use Rattle.listing_text.specs.declared.listing.ListedCell.{ListedCell}
use Rattle.homotopy_rows.specs.Points.{IsTieAt}

-- P holds of some support with its pair
abbrev pub SomePair : List (List Point) → Cell → (List Point → ℕ → ℕ → Type 0) → Type 0
SomePair [] cell P = ⊥
SomePair (s ∷ supports) [] P = ⊥
SomePair (s ∷ supports) (pair ∷ cell) P = P s pair.0 pair.1 ⊎ SomePair supports cell P

-- some further point of the support has the sum 0
abbrev pub IsFlatAt : ℤ → List ℤ → List Point → ℕ → ℕ → Type 0
IsFlatAt den v s a b = (c : ℕ) × IsTieAt den v s a b c

-- some further point of the line has the sum 0
abbrev pub IsFlat : Problem → ListedCell → Type 0
IsFlat p x = SomePair p.supports x.cell (IsFlatAt x.normal.den x.normal.v)

-- the first line that has one has this number
abbrev pub FirstFlat : Problem → List ListedCell → ℕ → Type 0
FirstFlat p [] number = ⊥
FirstFlat p (x ∷ lines) number = (IsFlat p x × (x.line ≡ number)) ⊎ ((¬ (IsFlat p x)) × FirstFlat p lines number)
