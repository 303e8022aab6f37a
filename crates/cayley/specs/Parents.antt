-- Which cells precede a cell, its parent and its chain of parents.
use Rattle.std.specs.Prelude.{◌≡◌, ◌≢◌, ◌⊎◌, ℕ, List, [], ◌∷◌}
use Rattle.cayley.specs.Times.{Time}
use Rattle.cayley.specs.Problems.{Problem}
use Rattle.cayley.specs.Cells.{Cell, IsLess}
use Rattle.cayley.specs.Normals.{Normal, IsNormal, NoneBelow}
use Rattle.cayley.specs.Lives.{AliveJustBefore, AliveJustAfter, BeginsAt}

-- the two pairs have one position in common, and not both
abbrev pub ShareOne : ℕ × ℕ → ℕ × ℕ → Type 0
ShareOne x y = ((x.0 ≡ y.0) × (x.1 ≢ y.1)) ⊎ ((x.1 ≡ y.1) × (x.0 ≢ y.0)) ⊎ (x.0 ≡ y.1) ⊎ (x.1 ≡ y.0)

-- the two cells differ in one point of one support
abbrev pub DifferInOne : Cell → Cell → Type 0
DifferInOne [] tau = ⊥
DifferInOne (x ∷ sigma) [] = ⊥
DifferInOne (x ∷ sigma) (y ∷ tau) = (ShareOne x y × (sigma ≡ tau)) ⊎ ((x ≡ y) × DifferInOne sigma tau)

-- the one is alive just before, the other just after, and they have a normal in common at t with no point below
abbrev pub Precedes : Problem → Cell → Cell → Time → Type 0
Precedes p sigma tau t = DifferInOne sigma tau × AliveJustBefore p sigma t × AliveJustAfter p tau t
    × ((v : Normal) × IsNormal p sigma t v × IsNormal p tau t v × NoneBelow p sigma t v × NoneBelow p tau t v)

-- the least cell that precedes tau where it begins
abbrev pub IsParent : Problem → Cell → Cell → Type 0
IsParent p sigma tau = (t : Time) × BeginsAt p tau t × Precedes p sigma tau t × ((rho : Cell) → Precedes p rho tau t → ¬ (IsLess rho sigma))

-- the chain of tau: the list that begins with tau and goes from each cell to its parent, as long as there is one
abbrev pub IsChain : Problem → Cell → List Cell → Type 0
IsChain p tau [] = ⊥
IsChain p tau (x ∷ []) = (x ≡ tau) × ((rho : Cell) → ¬ (IsParent p rho tau))
IsChain p tau (x ∷ y ∷ cells) = (x ≡ tau) × IsParent p y tau × IsChain p y (y ∷ cells)

-- sigma is in the chain of tau
pub data InChain (p : Problem) : Cell → Cell → Type 0 where
  here : {tau : Cell} → InChain p tau tau
  up : {sigma rho tau : Cell} → IsParent p rho tau → InChain p sigma rho → InChain p sigma tau

-- the path tree: the cells whose chain ends with the start cell, which has no parent
abbrev pub IsInTree : Problem → Cell → Cell → Type 0
IsInTree p start cell = ((rho : Cell) → ¬ (IsParent p rho start)) × InChain p start cell
