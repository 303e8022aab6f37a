-- What the inner functions keep of a log's nodes: the branches that are due, of which the last is the next, and the cells that are expected.
use Rattle.std.specs.Prelude.{◌≡◌, ℕ, Option, None, Some, List, [], ◌∷◌, ◌++◌, map, reverse}
use Rattle.int_vectors.specs.Vectors.{Each}
use Rattle.cayley.specs.declared.found.FoundCell.{FoundCell}
use Rattle.cayley.specs.Problems.{Problem}
use Rattle.cayley.specs.Cells.{Cell}
use Rattle.cayley.specs.Mixed.{IsMixedCell}
use Rattle.cayley.specs.Shares.{IsTrueBranch, IsOwn, IsChildren}
use Rattle.cayley.specs.Stored.{cells_of}
use Rattle.searcher.specs.declared.branches.Branch.{Branch}
use Rattle.searcher.specs.Branches.{branch_of, branches_of, children_of}
use Rattle.searcher.specs.Ends.{IsTiedAtEnd}
use Rattle.searcher.specs.Expansions.{HasLowestNormal}
use Rattle.path_trace.specs.declared.trace.TraceNode.{TraceNode}
use Rattle.log_check.specs.declared.judgement.Judgement.{Judgement}
use Rattle.log_check.specs.declared.judgement.Judgement.TheVariants as judgement
use Rattle.log_check.specs.declared.refusal.Refusal.{Refusal}
use Rattle.log_check.specs.declared.refusal.Refusal.TheVariants as refusal
use Rattle.log_check.specs.declared.refusal.Halt.{Halt}
use Rattle.log_check.specs.declared.refusal.Halt.TheVariants as halt
use Rattle.log_check.specs.Nodes.{IsFit}
use Rattle.log_check.specs.Verdicts.{Against}

-- the cells that are due, the next first
abbrev pub cells_due : List Branch → List Cell
cells_due due = map (λ (b : Branch). b.cell) (reverse due)

-- each of them begins where it says
abbrev pub AreTrue : Problem → List Branch → Type 0
AreTrue p due = Each due (λ b. IsTrueBranch p (branch_of b))

-- what a judgement says against a node
abbrev pub refusal_of : Judgement → Option Refusal
refusal_of judgement.Unfit = Some refusal.Unfit
refusal_of judgement.NotInverse = Some refusal.NotInverse
refusal_of judgement.Tied = Some refusal.Tied
refusal_of (judgement.Inner children) = None
refusal_of judgement.Endless = None
refusal_of (judgement.Target found) = None

-- the branches that it opens
abbrev pub opened_by : Judgement → List Branch
opened_by judgement.Unfit = []
opened_by judgement.NotInverse = []
opened_by judgement.Tied = []
opened_by (judgement.Inner children) = children_of children
opened_by judgement.Endless = []
opened_by (judgement.Target found) = []

-- the cell that it lets expect
abbrev pub found_by : Judgement → List FoundCell
found_by judgement.Unfit = []
found_by judgement.NotInverse = []
found_by judgement.Tied = []
found_by (judgement.Inner children) = []
found_by judgement.Endless = []
found_by (judgement.Target found) = found ∷ []

-- a node of the next cell passes: its children come in its place, and the cell itself is expected where it is mixed
pub record IsTurn (p : Problem) (node : TraceNode) (due after : List Branch) (found more : List FoundCell) : Type 0 where
  pub branch : Branch
  pub rest : List Branch
  pub kids : List Branch
  pub own : List FoundCell
  pub next : due ≡ rest ++ branch ∷ []
  pub same : branch.cell ≡ node.cell
  pub fit : IsFit p node
  pub untied : ¬ (IsTiedAtEnd p node.cell)
  pub children : IsChildren p node.cell (branches_of kids)
  pub put : after ≡ rest ++ reverse kids
  pub kept : more ≡ found ++ own
  pub mixed : IsOwn (IsMixedCell p) node.cell (cells_of own)
  pub normals : Each own (HasLowestNormal p)

-- the halt has this line and speaks against the node, or there was no memory
abbrev pub IsHaltAt : Problem → TraceNode → List Branch → ℕ → Halt → Type 0
IsHaltAt p node due line (halt.Refused number refusal) = (number ≡ line) × Against p node (cells_due due) refusal
IsHaltAt p node due line halt.OutOfMemory = Unit {0}
