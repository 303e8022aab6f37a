-- The law of flips, and the rules by signs. Places j count from 0, positions from 1.
use Rattle.std.specs.Prelude.{◌↔◌, ℕ, ℤ, pos, ◌<ℤ◌}
use Rattle.cayley.specs.Times.{Time}
use Rattle.cayley.specs.Problems.{Problem, IsProblem}
use Rattle.cayley.specs.Cells.{Cell, IsOf, IsListOf}
use Rattle.cayley.specs.Normals.{Normal, IsNormal}
use Rattle.cayley.specs.Lives.{AliveJustBefore}
use Rattle.cayley.specs.Parents.{IsParent}
use Rattle.cayley.specs.Dependencies.{IsFurtherAt, Numbers, number_at, IsPositiveDependency}
use Rattle.cayley.specs.Flips.{IsOnlyLevel, IsSuccessorAt, IsPredecessorAt, IsLeastPredecessor, Flips}
use Rattle.cayley.specs.declared.found.Sign.{Sign}
use Rattle.cayley.specs.Signs.{HasSign}
use Rattle.cayley.specs.FlipRules.{successors_by, predecessors_by, KeepsBy}

-- a cell that is alive just before t, where exactly one further point is level at t;
-- that none is below then, and that this point isn't level at all times, follows
abbrev pub FlipLaw : Type 0
FlipLaw = (p : Problem) (cell : Cell) (j c : ℕ) (numbers : Numbers) (t : Time) (v : Normal) → IsProblem p → AliveJustBefore p cell t
    → IsNormal p cell t v → IsOnlyLevel p cell t v j c → IsPositiveDependency p cell j c numbers
    → Flips p cell j c (number_at numbers.pairs j) t

-- its children are the successors there that it keeps, also where there are ties elsewhere
abbrev pub ChildrenLaw : Type 0
ChildrenLaw = (p : Problem) (cell : Cell) (j c : ℕ) (numbers : Numbers) (t : Time) (v : Normal) → IsProblem p → AliveJustBefore p cell t
    → IsNormal p cell t v → IsOnlyLevel p cell t v j c → IsPositiveDependency p cell j c numbers
    → (tau : Cell) → IsParent p cell tau ↔ (IsSuccessorAt cell j c (number_at numbers.pairs j) tau × IsLeastPredecessor cell j c (number_at numbers.pairs j))

-- the successors in cell order, and whether the cell keeps them, by the signs of the numbers at the pair
abbrev pub FlipRule : Type 0
FlipRule = (p : Problem) (cell : Cell) (j c : ℕ) (m : ℤ × ℤ) (a b : Sign) → IsOf p cell → IsFurtherAt p cell j c → HasSign a m.0 → HasSign b m.1
    → IsListOf (IsSuccessorAt cell j c m) (successors_by cell j c a b)
    × (IsLeastPredecessor cell j c m ↔ KeepsBy cell j c a b)

-- the predecessors in cell order; the premise that not both are positive holds of a dependency that is positive at c
abbrev pub PredecessorRule : Type 0
PredecessorRule = (p : Problem) (cell : Cell) (j c : ℕ) (m : ℤ × ℤ) (a b : Sign) → IsOf p cell → IsFurtherAt p cell j c → HasSign a m.0 → HasSign b m.1
    → ¬ ((pos 0 <ℤ m.0) × (pos 0 <ℤ m.1)) → IsListOf (IsPredecessorAt cell j c m) (predecessors_by cell j c a b)
