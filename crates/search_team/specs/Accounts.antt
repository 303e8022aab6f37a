-- What comes to searchers and what they make of it, in shares and in solves.
use Rattle.std.specs.Prelude.{◌≡◌, ◌⊎◌, ℕ, ◌+◌, List, sum_by, Contains}
use Rattle.cayley.specs.declared.found.FoundCell.{FoundCell}
use Rattle.cayley.specs.Problems.{Problem}
use Rattle.cayley.specs.Parents.{IsParent}
use Rattle.cayley.specs.Shares as shares
use Rattle.cayley.specs.Shares.{IsTrueBranch, GivesSizes, GivesCosts}
use Rattle.cayley.specs.Stored.{cells_of}
use Rattle.searcher.specs.declared.branches.Branch.{Branch}
use Rattle.searcher.specs.Branches.{branch_of, branches_of}
use Rattle.searcher.specs.Searches.{KeepShares}

-- the branches that came in cost n solves more than those that went out
abbrev pub CostMore : Problem → List Branch → List Branch → ℕ → Type 0
CostMore p ins outs n = (size cost : shares.Branch → ℕ) → GivesSizes p size → GivesCosts p size cost → n + sum_by cost (branches_of outs) ≡ sum_by cost (branches_of ins)

-- nothing is lost: the shares of the branches that came in are the found cells, with the shares of the branches that went out; n cells were solved
pub record IsBalance (p : Problem) (ins outs : List Branch) (found : List FoundCell) (n : ℕ) : Type 0 where
  pub shares : KeepShares p ins (cells_of found) outs
  pub costs : CostMore p ins outs n

-- a branch that begins where it says, of a cell whose parent is the first one's cell
abbrev pub IsChildOf : Problem → Branch → Branch → Type 0
IsChildOf p a b = IsTrueBranch p (branch_of b) × IsParent p a.cell b.cell

-- one of the first branches, or a child of one of those that came in
abbrev pub IsMade : Problem → List Branch → List Branch → Branch → Type 0
IsMade p firsts ins b = Contains firsts b ⊎ ((a : Branch) × Contains ins a × IsChildOf p a b)
