-- Cells: one pair of positions for each support.
use Rattle.std.specs.Prelude.{◌≡◌, ◌≢◌, ◌⊎◌, ◌↔◌, ℕ, ◌<◌, ◌≤◌, List, [], ◌∷◌, length, ℤ, pos, Contains}
use Rattle.int_vectors.specs.Vectors.{Each, IsZero, sub, dot}
use Rattle.cayley.specs.Problems.{Point, Problem, point_at}

abbrev pub Cell : Type 0
Cell = List (ℕ × ℕ)

-- each pair rises, and positions count from 1
abbrev pub IsCell : Cell → Type 0
IsCell cell = Each cell (λ x. (1 ≤ x.0) × (x.0 < x.1))

-- P holds of each support with its pair, of which there are equally many
abbrev pub EachPair : List (List Point) → Cell → (List Point → ℕ → ℕ → Type 0) → Type 0
EachPair [] [] P = Unit {0}
EachPair [] (pair ∷ cell) P = ⊥
EachPair (s ∷ supports) [] P = ⊥
EachPair (s ∷ supports) (pair ∷ cell) P = P s pair.0 pair.1 × EachPair supports cell P

-- the cell is of the problem: each position is at most its support's count
abbrev pub IsOf : Problem → Cell → Type 0
IsOf p cell = EachPair p.supports cell (λ s a b. (1 ≤ a) × (a < b) × (b ≤ length s))

-- no vector other than zero is orthogonal to all differences of the pairs
abbrev pub IsIndependent : Problem → Cell → Type 0
IsIndependent p cell = (v : List ℤ) → length v ≡ p.dimension
    → EachPair p.supports cell (λ s a b. dot (sub (point_at s b).coordinates (point_at s a).coordinates) v ≡ pos 0)
    → IsZero v

-- a vector that shows that the cell is dependent: other than zero, and orthogonal to each difference of the pairs
pub record IsCellKernel (p : Problem) (cell : Cell) (kernel : List ℤ) : Type 0 where
  pub long : length kernel ≡ p.dimension
  pub other : ¬ (IsZero kernel)
  pub orthogonal : EachPair p.supports cell (λ s a b. dot (sub (point_at s b).coordinates (point_at s a).coordinates) kernel ≡ pos 0)

-- a point of the support that is neither of the pair
abbrev pub IsFurther : List Point → ℕ → ℕ → ℕ → Type 0
IsFurther s a b c = (1 ≤ c) × (c ≤ length s) × (c ≢ a) × (c ≢ b)

-- cell order: the first difference decides; where one cell begins the other, the shorter is less
abbrev pub IsLess : Cell → Cell → Type 0
IsLess sigma [] = ⊥
IsLess [] (y ∷ tau) = Unit {0}
IsLess (x ∷ sigma) (y ∷ tau) = (x.0 < y.0) ⊎ ((x.0 ≡ y.0) × ((x.1 < y.1) ⊎ ((x.1 ≡ y.1) × IsLess sigma tau)))

abbrev pub IsSorted : List Cell → Type 0
IsSorted [] = Unit {0}
IsSorted (x ∷ []) = Unit {0}
IsSorted (x ∷ y ∷ cells) = IsLess x y × IsSorted (y ∷ cells)

-- exactly the cells with a property, each once, in cell order
abbrev pub IsListOf : (Cell → Type 0) → List Cell → Type 0
IsListOf P cells = IsSorted cells × ((cell : Cell) → Contains cells cell ↔ P cell)
