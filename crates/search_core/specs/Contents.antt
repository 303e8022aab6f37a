-- What a state still stands for, and that it stays the share of the first branch.
use Rattle.std.specs.Prelude.{List, [], ◌∷◌, ◌++◌, flat_map, IsPermutation}
use Rattle.cayley.specs.Problems.{Problem}
use Rattle.cayley.specs.Cells.{Cell}
use Rattle.cayley.specs.Shares.{Branch, GivesShares}
use Rattle.search_core.specs.declared.branches.CoreBranch.{CoreBranch}
use Rattle.search_core.specs.declared.branches.Hand.{Hand}
use Rattle.search_core.specs.declared.branches.Hand.TheVariants.{Empty, Branch as Holding, One, Two, Cell as Finished}
use Rattle.search_core.specs.declared.events.Event.{Event}
use Rattle.search_core.specs.States.{Searcher, State, IsIdle}
use Rattle.search_core.specs.Runs.{branch_of, IsTrueRun}

-- a hand: the share of each branch in it, or its cell
abbrev pub held : (Branch → List Cell) → Hand → List Cell
held share Empty = []
held share (Holding b) = share (branch_of b)
held share (One b) = share (branch_of b)
held share (Two b c) = share (branch_of b) ++ share (branch_of c)
held share (Finished c) = c ∷ []

-- a searcher: its outs, its hand, and the shares of the branches in its deque
abbrev pub content_of : (Branch → List Cell) → Searcher → List Cell
content_of share x = x.outs ++ (held share x.hand ++ flat_map (λ b. share (branch_of b)) x.deque)

-- the content of a state: all outs, all cells in hands, and the shares of all branches in deques and hands
abbrev pub content : (Branch → List Cell) → State → List Cell
content share state = flat_map (content_of share) state

-- all outs
abbrev pub all_outs : State → List Cell
all_outs state = flat_map (λ (x : Searcher). x.outs) state

-- after every run in which each Expand is true the content is the share of the branch, each cell once; with all deques and
-- hands empty the outs are
abbrev pub KeepsShare : Problem → State → CoreBranch → Type 0
KeepsShare p start branch = (share : Branch → List Cell) → GivesShares p share → (events : List Event) (end : State) → IsTrueRun p start events end
    → IsPermutation (content share end) (share (branch_of branch))
    × (IsIdle end → IsPermutation (all_outs end) (share (branch_of branch)))
