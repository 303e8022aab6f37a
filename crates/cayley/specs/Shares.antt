-- Branches of the search: their shares, sizes and children.
use Rattle.std.specs.Prelude.{◌≡◌, ◌⊎◌, ℕ, ◌+◌, ◌≤◌, min, List, [], ◌∷◌, length, map, Contains}
use Rattle.int_vectors.specs.Vectors.{Each}
use Rattle.cayley.specs.Problems.{Problem}
use Rattle.cayley.specs.Cells.{Cell, IsOf, IsListOf}
use Rattle.cayley.specs.Mixed.{IsMixedCell}
use Rattle.cayley.specs.Lives.{Begin, BeginsAs}
use Rattle.cayley.specs.Parents.{IsParent, InChain}

pub record Branch : Type 0 where
  pub cell : Cell
  pub begin : Begin

-- the cell begins where the branch says, so the problem contains it
abbrev pub IsTrueBranch : Problem → Branch → Type 0
IsTrueBranch p b = BeginsAs p b.cell b.begin

-- a wanted cell whose chain has the branch's cell in it; there is none where the cell doesn't begin where the branch says
abbrev pub InShareOf : Problem → (Cell → Type 0) → Branch → Cell → Type 0
InShareOf p Wanted b cell = IsTrueBranch p b × Wanted cell × InChain p b.cell cell

-- the wanted cells whose chain has the branch's cell in it, in cell order
abbrev pub IsShareOf : Problem → (Cell → Type 0) → Branch → List Cell → Type 0
IsShareOf p Wanted b cells = IsListOf (InShareOf p Wanted b) cells

-- every function that gives each branch its share of the wanted cells
abbrev pub GivesSharesOf : Problem → (Cell → Type 0) → (Branch → List Cell) → Type 0
GivesSharesOf p Wanted share = (b : Branch) → IsShareOf p Wanted b (share b)

-- the share of a branch: of the mixed cells of the target
abbrev pub IsShare : Problem → Branch → List Cell → Type 0
IsShare p b cells = IsShareOf p (IsMixedCell p) b cells

abbrev pub GivesShares : Problem → (Branch → List Cell) → Type 0
GivesShares p share = (b : Branch) → IsShare p b (share b)

-- the size of a branch: how many cells have the branch's cell in their chain
abbrev pub IsSize : Problem → Branch → ℕ → Type 0
IsSize p b n = (cells : List Cell) × IsShareOf p (λ cell. Unit {0}) b cells × (length cells ≡ n)

abbrev pub GivesSizes : Problem → (Branch → ℕ) → Type 0
GivesSizes p size = (b : Branch) → IsSize p b (size b)

-- true branches of the cells whose parent is sigma, in cell order
abbrev pub IsChildren : Problem → Cell → List Branch → Type 0
IsChildren p sigma kids = Each kids (IsTrueBranch p) × IsListOf (λ cell. IsParent p sigma cell) (map (λ (b : Branch). b.cell) kids)

-- the cell itself, if it is wanted
abbrev pub IsOwn : (Cell → Type 0) → Cell → List Cell → Type 0
IsOwn Wanted cell own = (Wanted cell × (own ≡ cell ∷ [])) ⊎ (¬ (Wanted cell) × (own ≡ []))

-- the chain of the branch's cell has the cell of a given branch in it
abbrev pub IsLed : Problem → List Branch → Branch → Type 0
IsLed p given b = (a : Branch) × Contains given a × InChain p a.cell b.cell

-- what a branch costs in solves: its size, and 1 where that is 0 and the problem contains the cell
abbrev pub GivesCosts : Problem → (Branch → ℕ) → (Branch → ℕ) → Type 0
GivesCosts p size cost = (b : Branch) → (1 ≤ size b → cost b ≡ size b) × (size b ≡ 0 → IsOf p b.cell → cost b ≡ 1) × (¬ (IsOf p b.cell) → cost b ≡ 0)

-- the count after one expansion of b: one more if the problem contains the cell, and at most the top
abbrev pub Solved : Problem → ℕ → Branch → ℕ → ℕ → Type 0
Solved p top b old new = (IsOf p b.cell → new ≡ min (old + 1) top) × (¬ (IsOf p b.cell) → new ≡ old)
