-- The pairs of each support, and which of them are chosen.
use Rattle.std.specs.Prelude.{◌≡◌, ℕ, ◌<◌, List, [], ◌∷◌, length, get_or}
use Rattle.cayley.specs.Cells.{Cell}
use Rattle.plain_lister.specs.declared.wheels.Wheel.{Wheel}
use Rattle.plain_lister.specs.Order.{Pair, all_pairs}

-- the chosen pair
abbrev pub shown : Wheel → Pair
shown w = get_or w.pairs.items w.at (0, 0)

-- the wheel has the pairs of m positions, and x of them is chosen
abbrev pub IsWheel : ℕ → Wheel → Pair → Type 0
IsWheel m w x = (w.pairs.items ≡ all_pairs m) × (w.at < length w.pairs.items) × (shown w ≡ x)

-- the wheels have the pairs of the supports, and those of the cell are chosen
abbrev pub Show : List ℕ → List Wheel → Cell → Type 0
Show [] [] [] = Unit {0}
Show (m ∷ counts) (w ∷ wheels) (x ∷ cell) = IsWheel m w x × Show counts wheels cell
Show _ _ _ = ⊥
