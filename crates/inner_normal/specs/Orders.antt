-- The numbers of a cell's dependency with one further point, in order of support and position of their points.
use Rattle.std.specs.Prelude.{ℕ, suc, ◌==◌, nat_lt, if◌then◌else◌, List, [], ◌∷◌, ◌++◌, ℤ}
use Rattle.cayley.specs.Cells.{Cell}
use Rattle.cayley.specs.Dependencies.{Numbers}

-- of the two points of a pair, in their order
abbrev pub two : {A : Type 0} → A × A → List A
two m = m.0 ∷ m.1 ∷ []

-- the same with that of a further point, at position c of the support
abbrev pub three : {A : Type 0} → ℕ × ℕ → A × A → ℕ → A → List A
three pair m c last =
    if nat_lt c pair.0 then last ∷ m.0 ∷ m.1 ∷ []
    else if nat_lt c pair.1 then m.0 ∷ last ∷ m.1 ∷ []
    else m.0 ∷ m.1 ∷ last ∷ []

-- of all supports, which count from i; the further point is of support j
abbrev pub in_order : {A : Type 0} → ℕ → ℕ → ℕ → A → List (A × A) → Cell → List A
in_order i j c last [] cell = []
in_order i j c last (m ∷ ms) [] = []
in_order i j c last (m ∷ ms) (x ∷ cell) = (if i == j then three x m c last else two m) ++ in_order (suc i) j c last ms cell

-- the numbers of a dependency with point c of support j, which counts from 0
abbrev pub ordered : Cell → ℕ → ℕ → Numbers → List ℤ
ordered cell j c numbers = in_order 0 j c numbers.last numbers.pairs cell
