-- What a search counts of the cells that it finds.
use Rattle.std.specs.Prelude.{◌≡◌, ℕ, ◌≤◌, min, List, [], ◌∷◌, length}
use Rattle.int_vectors.specs.Vectors.{Each}
use Rattle.cayley.specs.Problems.{Problem}
use Rattle.cayley.specs.Cells.{Cell}
use Rattle.cayley.specs.Shares as shares
use Rattle.cayley.specs.Shares.{IsShare, IsSize, GivesShares}
use Rattle.searcher.specs.declared.branches.Branch.{Branch}
use Rattle.searcher.specs.declared.expansions.HaltCause.{HaltCause}
use Rattle.searcher.specs.declared.counting.Counted.{Counted}
use Rattle.searcher.specs.Branches.{branch_of}
use Rattle.searcher.specs.Searches.{CostOf, IsLeft, IsOfLeft, all_shares, top}

-- how many mixed cells the shares of the given branches have, as often as they stand there
abbrev pub CountsShares : Problem → List Branch → ℕ → Type 0
CountsShares p given n = (share : shares.Branch → List Cell) → GivesShares p share → n ≡ length (all_shares share given)

-- each count is what it says, or the greatest count
pub record IsCounted (p : Problem) (given : List Branch) (counted : Counted) : Type 0 where
  pub cells : (n : ℕ) × CountsShares p given n × (counted.cells ≡ min n top)
  pub solves : (n : ℕ) × CostOf p given n × (counted.solves ≡ min n top)

-- of one given branch the cells are those of its share
abbrev pub CountsShare : Problem → List Branch → Counted → Type 0
CountsShare p given counted = (b : Branch) (cells : List Cell) → given ≡ b ∷ [] → IsShare p (branch_of b) cells → counted.cells ≡ min (length cells) top

-- and the steps are its size, where that isn't 0
abbrev pub CountsSize : Problem → List Branch → Counted → Type 0
CountsSize p given counted = (b : Branch) (n : ℕ) → given ≡ b ∷ [] → IsSize p (branch_of b) n → 1 ≤ n → counted.solves ≡ min n top

-- the cause is told of the cell of a given branch, or of a true one whose chain has a given branch's cell in it
abbrev pub IsBehind : Problem → List Branch → HaltCause → Type 0
IsBehind p given cause = (left : List Branch) × Each left (IsLeft p given) × IsOfLeft p left cause
