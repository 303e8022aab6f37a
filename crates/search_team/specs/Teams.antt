-- What a team has found, and what it hands back where it stops.
use Rattle.std.specs.Prelude.{◌≡◌, ◌⊎◌, List, [], ◌++◌, None, IfSome, IsSome, Contains, Vec, flat_map}
use Rattle.std.specs.Global.{Global}
use Rattle.int_vectors.specs.Vectors.{Each}
use Rattle.cayley.specs.declared.found.FoundCell.{FoundCell}
use Rattle.cayley.specs.Problems.{Problem}
use Rattle.cayley.specs.Cells.{Cell, IsOf}
use Rattle.cayley.specs.Parents.{InChain}
use Rattle.cayley.specs.Ties.{IsTieFree}
use Rattle.cayley.specs.TieProofs.{IsTieProofAtEnd}
use Rattle.cayley.specs.Stored.{cells_of}
use Rattle.branch_pool.specs.Seats.{AreAllSeats, offered_by, taken_by}
use Rattle.searcher.specs.declared.branches.Branch.{Branch}
use Rattle.searcher.specs.declared.expansions.HaltCause.{HaltCause}
use Rattle.searcher.specs.declared.expansions.HaltCause.TheVariants.{Tie, Overflow, OutOfMemory}
use Rattle.searcher.specs.declared.searching.Found.{Found}
use Rattle.searcher.specs.Expansions.{HasLowestNormal, HasNoTie}
use Rattle.searcher.specs.Workings.{FitsWorking}
use Rattle.searcher.specs.Searches.{IsFound, KeepShares, IsLeft, IsOfLeft}
use Rattle.search_team.specs.declared.stopping.Part.{Part}
use Rattle.search_team.specs.declared.stopping.TeamStopped.{TeamStopped}
use Rattle.search_team.specs.Accounts.{IsMade}

-- the shares of the given branches in cell order, each cell with a working that fits
abbrev pub IsSharedFound : Problem → List Branch → Found → Type 0
IsSharedFound p given found = IsFound p given found × Each found.cells.items (λ (x : FoundCell). FitsWorking p x.cell)

abbrev pub all_left : List Part → List Branch
all_left parts = flat_map (λ (p : Part). p.left.items) parts

abbrev pub all_found : List Part → List FoundCell
all_found parts = flat_map (λ (p : Part). p.found.items) parts

-- the left branches: of all parts, and those that weren't offered
abbrev pub left_of : TeamStopped → List Branch
left_of s = all_left s.parts.items ++ s.unoffered.items

-- the cell of a given branch, or one whose chain has such a cell in it
abbrev pub IsBehind : Problem → List Branch → Cell → Type 0
IsBehind p given cell = (a : Branch) × Contains given a × InChain p a.cell cell

-- a tie at an end, or a cell of the problem whose working doesn't fit; the cell is behind the given branches
abbrev pub IsCauseBehind : Problem → List Branch → HaltCause → Type 0
IsCauseBehind p given (Tie proof) = IsTieProofAtEnd p proof × IsBehind p given proof.cell
IsCauseBehind p given (Overflow cell) = IsOf p cell × ¬ (FitsWorking p cell) × IsBehind p given cell
IsCauseBehind p given OutOfMemory = Unit {0}

-- nothing is given up
pub record IsTeamStopped (p : Problem) (given : List Branch) (s : TeamStopped) : Type 0 where
  -- what was found, with the shares of the left branches, is the shares of the given ones
  pub shares : s.rest ≡ None → KeepShares p given (cells_of (all_found s.parts.items)) (left_of s)
  -- with a rest: together with the shares of what its seats offered, it is the shares of the given branches and of what these seats took
  pub shares_rest : IfSome s.rest (λ u. KeepShares p (given ++ taken_by u.seats.items) (cells_of (all_found s.parts.items)) (left_of s ++ offered_by u.seats.items))
  pub normals : Each (all_found s.parts.items) (HasLowestNormal p)
  -- each left branch is a given one, or begins where it says and has a given branch's cell in its chain
  pub led : s.rest ≡ None → Each (left_of s) (IsLeft p given)
  -- with a rest: each that is left or was offered is a given one, one that the seats took, or a child of such a one
  pub origin : IfSome s.rest (λ u. Each (left_of s ++ offered_by u.seats.items) (IsMade p (given ++ taken_by u.seats.items) (given ++ taken_by u.seats.items)))
  -- a rest is there only for want of memory, and it can be closed later
  pub memory : IsSome s.rest → s.cause ≡ OutOfMemory
  pub closable : IfSome s.rest (λ u. AreAllSeats u.pool u.seats.items)
  -- the cause is told of the cell of a left branch, which is behind the given ones
  pub told : IsOfLeft p (left_of s) s.cause
  pub behind : IsCauseBehind p given s.cause
  pub untied : IsTieFree p → HasNoTie s.cause

-- before the first offer there is no part, and the given vector comes back; later none is unoffered
abbrev pub IsHandedBack : Vec Branch Global → TeamStopped → Type 0
IsHandedBack branches s = ((s.unoffered ≡ branches) × (s.parts.items ≡ []) × (s.rest ≡ None) × (s.cause ≡ OutOfMemory)) ⊎ (s.unoffered.items ≡ [])
