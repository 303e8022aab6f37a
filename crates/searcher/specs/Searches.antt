-- What a search finds, what it leaves where it halts, and what it counts.
use Rattle.std.specs.Prelude.{◌≡◌, ◌⊎◌, ℕ, ◌+◌, ◌-◌, ◌≤◌, ◌^◌, min, List, [], ◌∷◌, ◌++◌, map, flat_map, sum_by, Contains, IsPermutation}
use Rattle.int_vectors.specs.Vectors.{Each}
use Rattle.cayley.specs.declared.found.FoundCell.{FoundCell}
use Rattle.cayley.specs.Problems.{Problem}
use Rattle.cayley.specs.Cells.{Cell, IsOf, IsLess}
use Rattle.cayley.specs.Shares as shares
use Rattle.cayley.specs.Shares.{IsTrueBranch, IsShare, IsSize, IsLed, GivesShares, GivesSizes, GivesCosts}
use Rattle.cayley.specs.Stored.{cells_of}
use Rattle.searcher.specs.declared.branches.Branch.{Branch}
use Rattle.searcher.specs.declared.expansions.Expansion.{Expansion}
use Rattle.searcher.specs.declared.expansions.Expansion.TheVariants.{Inner, Target, Endless, Stranger}
use Rattle.searcher.specs.declared.expansions.HaltCause.{HaltCause}
use Rattle.searcher.specs.declared.expansions.HaltCause.TheVariants.{Tie, Overflow, OutOfMemory}
use Rattle.searcher.specs.declared.searching.Found.{Found}
use Rattle.searcher.specs.declared.searching.Stopped.{Stopped}
use Rattle.searcher.specs.Workings.{FitsWorking}
use Rattle.searcher.specs.Branches.{branch_of, branches_of, children_of}
use Rattle.searcher.specs.Expansions.{HasLowestNormal}

-- the branches that an expansion leaves to do
abbrev pub opened : Expansion → List Branch
opened (Inner children) = children_of children
opened (Target found) = []
opened Endless = []
opened (Stranger branch) = []

-- the mixed cell that it finds
abbrev pub found_in : Expansion → List FoundCell
found_in (Inner children) = []
found_in (Target found) = found ∷ []
found_in Endless = []
found_in (Stranger branch) = []

-- cell order, in which a cell may stand twice
abbrev pub NeverFalls : List Cell → Type 0
NeverFalls [] = Unit {0}
NeverFalls (x ∷ []) = Unit {0}
NeverFalls (x ∷ y ∷ cells) = ¬ (IsLess y x) × NeverFalls (y ∷ cells)

-- the shares of all branches, one after the other
abbrev pub all_shares : (shares.Branch → List Cell) → List Branch → List Cell
all_shares share branches = flat_map share (branches_of branches)

-- the cells are the shares of the given branches, as often as they stand there
abbrev pub AreSharesOf : Problem → List Branch → List Cell → Type 0
AreSharesOf p given cells = (share : shares.Branch → List Cell) → GivesShares p share → IsPermutation (all_shares share given) cells

-- the cells with the shares of the branches that are left are the shares of the given branches
abbrev pub KeepShares : Problem → List Branch → List Cell → List Branch → Type 0
KeepShares p given cells left = (share : shares.Branch → List Cell) → GivesShares p share → IsPermutation (all_shares share given) (cells ++ all_shares share left)

-- what the given branches cost in steps: each its size, and a stranger of the problem 1
abbrev pub CostOf : Problem → List Branch → ℕ → Type 0
CostOf p given n = (size cost : shares.Branch → ℕ) → GivesSizes p size → GivesCosts p size cost → n ≡ sum_by cost (branches_of given)

-- the greatest count
abbrev pub top : ℕ
top = 2 ^ 64 - 1

-- Ok: the shares in cell order with their normals in lowest terms, and the least of the cost and the greatest count
pub record IsFound (p : Problem) (given : List Branch) (found : Found) : Type 0 where
  pub cells : AreSharesOf p given (cells_of found.cells.items)
  pub order : NeverFalls (cells_of found.cells.items)
  pub normals : Each found.cells.items (HasLowestNormal p)
  pub solves : (n : ℕ) × CostOf p given n × (found.solves ≡ min n top)

-- a given branch, or a true one whose chain has a given branch's cell in it
abbrev pub IsLeft : Problem → List Branch → Branch → Type 0
IsLeft p given b = Contains given b ⊎ (IsTrueBranch p (branch_of b) × IsLed p (branches_of given) (branch_of b))

-- the cause is told of the cell of a branch that is left
abbrev pub IsOfLeft : Problem → List Branch → HaltCause → Type 0
IsOfLeft p left (Tie proof) = Contains (map (λ (b : Branch). b.cell) left) proof.cell
IsOfLeft p left (Overflow cell) = Contains (map (λ (b : Branch). b.cell) left) cell × IsOf p cell × ¬ (FitsWorking p cell)
IsOfLeft p left OutOfMemory = Unit {0}

-- a halt: nothing is lost
pub record IsStopped (p : Problem) (given : List Branch) (stopped : Stopped) : Type 0 where
  pub cells : KeepShares p given (cells_of stopped.found.cells.items) stopped.left.items
  pub normals : Each stopped.found.cells.items (HasLowestNormal p)
  pub left : Each stopped.left.items (IsLeft p given)
  pub cause : IsOfLeft p stopped.left.items stopped.cause

-- of one given branch the cells are its share
abbrev pub FindsShare : Problem → List Branch → Found → Type 0
FindsShare p given found = (b : Branch) → given ≡ b ∷ [] → IsShare p (branch_of b) (cells_of found.cells.items)

-- and the steps are its size, where that isn't 0
abbrev pub FindsSize : Problem → List Branch → Found → Type 0
FindsSize p given found = (b : Branch) (n : ℕ) → given ≡ b ∷ [] → IsSize p (branch_of b) n → 1 ≤ n → found.solves ≡ min n top

-- the steps from one count to another, of which there are at most the greatest count
abbrev pub IsCount : ℕ → ℕ → ℕ → Type 0
IsCount old new solves = (n : ℕ) × (new ≡ old + n) × (solves ≡ min n top)
