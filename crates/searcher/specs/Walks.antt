-- What a searcher keeps beside its branches, and which branches need no elimination.
use Rattle.std.specs.Prelude.{◌≡◌, IfSome, IsTrue, length}
use Rattle.carried_inverse.specs.Systems.{IsInverseOfCell}
use Rattle.cayley.specs.Problems.{Problem, version1}
use Rattle.cayley.specs.Cells.{Cell, IsOf}
use Rattle.cayley.specs.Shares.{IsTrueBranch}
use Rattle.searcher.specs.declared.branches.Branch.{Branch}
use Rattle.searcher.specs.declared.lasts.Last.{Last}
use Rattle.searcher.specs.declared.walks.Walk.{Walk}
use Rattle.searcher.specs.Branches.{branch_of}
use Rattle.searcher.specs.Ends.{IsTiedAtBegin}
use Rattle.searcher.specs.Workings.{FitsWorking}

-- a branch that an expansion opened: a true one, whose cell isn't tied where it begins
abbrev pub IsMade : Problem → Branch → Type 0
IsMade p b = IsOf p b.cell × IsTrueBranch p (branch_of b) × ¬ (IsTiedAtBegin p b.cell)

-- the inverse of a cell of the problem, and room for a row
pub record IsLast (p : Problem) (last : Last) : Type 0 where
  pub of : IsOf p last.cell
  pub inverse : IsInverseOfCell p last.cell last.carried
  pub row : length last.row.items ≡ p.dimension

-- a problem of version 1, the working of each of whose cells fits
abbrev pub IsCarried : Problem → Type 0
IsCarried p = (p.version ≡ version1) × ((cell : Cell) → IsOf p cell → FitsWorking p cell)

abbrev pub IsWalk : Problem → Walk → Type 0
IsWalk p walk = (IsTrue walk.carries → IsCarried p) × IfSome walk.last (IsLast p)
