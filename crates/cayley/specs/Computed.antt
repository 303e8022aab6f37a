-- What is computed from the plain data of a problem.
use Rattle.std.specs.Prelude.{◌⊎◌, ◌↔◌, ℕ, List, Contains}
use Rattle.cayley.specs.Times.{Time}
use Rattle.cayley.specs.Problems.{Problem, IsProblem}
use Rattle.cayley.specs.Cells.{Cell, IsOf, IsIndependent, IsListOf}
use Rattle.cayley.specs.Mixed.{IsAlive, IsMixedCell}
use Rattle.cayley.specs.Lives.{AliveJustBefore, AliveJustAfter, AliveEarly, AliveLate, BeginsAt}
use Rattle.cayley.specs.Parents.{Precedes, IsParent, IsChain, InChain}
use Rattle.cayley.specs.Shares.{Branch, IsTrueBranch, IsShare, IsSize}

-- each function answers with a proof that the answer is what the definition says
pub record Computed (p : Problem) : Type 0 where
  pub of : (cell : Cell) → Dec (IsOf p cell)
  pub independent : (cell : Cell) → IsOf p cell → Dec (IsIndependent p cell)
  -- whether a cell is alive at a time, just before it, just after it, at all early and at all late times
  pub alive : (cell : Cell) (t : Time) → Dec (IsAlive p cell t)
  pub just_before : (cell : Cell) (t : Time) → Dec (AliveJustBefore p cell t)
  pub just_after : (cell : Cell) (t : Time) → Dec (AliveJustAfter p cell t)
  pub early : (cell : Cell) → Dec (AliveEarly p cell)
  pub late : (cell : Cell) → Dec (AliveLate p cell)
  pub mixed : (cell : Cell) → Dec (IsMixedCell p cell)
  -- whether and where it begins
  pub begins : (cell : Cell) → ((t : Time) × BeginsAt p cell t) ⊎ ((t : Time) → ¬ (BeginsAt p cell t))
  pub begins_at : (cell : Cell) (t : Time) → Dec (BeginsAt p cell t)
  -- which cells precede it at a time, its parent and its chain
  pub predecessors : (cell : Cell) (t : Time) → (cells : List Cell) × IsListOf (λ sigma. Precedes p sigma cell t) cells
  pub parent : (cell : Cell) → ((sigma : Cell) × IsParent p sigma cell) ⊎ ((sigma : Cell) → ¬ (IsParent p sigma cell))
  pub chain : (cell : Cell) → (cells : List Cell) × IsChain p cell cells
  pub in_chain : (sigma cell : Cell) → Dec (InChain p sigma cell)
  -- whether a cell begins where a branch says, the branch's share and its size
  pub true_branch : (b : Branch) → Dec (IsTrueBranch p b)
  pub share : (b : Branch) → (cells : List Cell) × IsShare p b cells
  pub size : (b : Branch) → (n : ℕ) × IsSize p b n

abbrev pub AllComputed : Type 0
AllComputed = (p : Problem) → IsProblem p → Computed p

-- the cells of the chain's list are the cells in the chain
abbrev pub ChainLaw : Type 0
ChainLaw = (p : Problem) (tau : Cell) (cells : List Cell) → IsProblem p → IsChain p tau cells → (sigma : Cell) → Contains cells sigma ↔ InChain p sigma tau
