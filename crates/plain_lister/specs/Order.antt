-- The choices in cell order, by the number of points of each support.
use Rattle.std.specs.Prelude.{◌≡◌, ◌⊎◌, ◌↔◌, ℕ, ◌+◌, ◌*◌, ◌-◌, ◌<◌, ◌≤◌, List, [], ◌∷◌, map, flat_map}
use Rattle.std.specs.List.{range_with_len}
use Rattle.cayley.specs.Cells.{Cell, IsLess}

abbrev pub Pair : Type 0
Pair = ℕ × ℕ

-- a rising pair of positions of m points
abbrev pub IsPair : ℕ → Pair → Type 0
IsPair m x = (1 ≤ x.0) × (x.0 < x.1) × (x.1 ≤ m)

-- all pairs of m positions in order: each first one with each second one after it
abbrev pub all_pairs : ℕ → List Pair
all_pairs m = flat_map (λ a. map (λ b. (a, b)) (range_with_len (a + 1) (m - a))) (range_with_len 1 (m - 1))

abbrev pub IsPairLess : Pair → Pair → Type 0
IsPairLess x y = (x.0 < y.0) ⊎ ((x.0 ≡ y.0) × (x.1 < y.1))

-- the pairs of m points that are less than y are x and those less than x
abbrev pub IsNextPair : ℕ → Pair → Pair → Type 0
IsNextPair m x y = IsPair m y × ((z : Pair) → IsPair m z → IsPairLess z y ↔ (IsPairLess z x ⊎ (z ≡ x)))

abbrev pub IsLastPair : ℕ → Pair → Type 0
IsLastPair m x = (z : Pair) → IsPair m z → IsPairLess z x ⊎ (z ≡ x)

-- one pair of each support
abbrev pub IsChoice : List ℕ → Cell → Type 0
IsChoice [] [] = Unit {0}
IsChoice [] (x ∷ cell) = ⊥
IsChoice (m ∷ counts) [] = ⊥
IsChoice (m ∷ counts) (x ∷ cell) = IsPair m x × IsChoice counts cell

-- no choice is less
abbrev pub IsFirst : List ℕ → Cell → Type 0
IsFirst counts cell = (other : Cell) → IsChoice counts other → ¬ (IsLess other cell)

-- every choice is less or equal
abbrev pub IsLast : List ℕ → Cell → Type 0
IsLast counts cell = (other : Cell) → IsChoice counts other → IsLess other cell ⊎ (other ≡ cell)

-- the choices that are less than next are the cell and those less than the cell
abbrev pub IsNext : List ℕ → Cell → Cell → Type 0
IsNext counts cell next = (other : Cell) → IsChoice counts other → IsLess other next ↔ (IsLess other cell ⊎ (other ≡ cell))

-- the first pair of each support
abbrev pub firsts : List ℕ → Cell
firsts counts = map (λ m. (1, 2)) counts

-- more than `left_after` can be for these supports
abbrev pub room : List ℕ → ℕ
room [] = 1
room (m ∷ counts) = m * m * room counts

abbrev pub pair_left : ℕ → Pair → ℕ
pair_left m x = (m - x.0) * m + (m - x.1)

-- a number that falls from each choice to the next
abbrev pub left_after : List ℕ → Cell → ℕ
left_after [] cell = 0
left_after (m ∷ counts) [] = 0
left_after (m ∷ counts) (x ∷ cell) = pair_left m x * room counts + left_after counts cell
