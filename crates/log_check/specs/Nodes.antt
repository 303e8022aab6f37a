-- What is said of one node whose cell is due.
use Rattle.std.specs.Prelude.{◌≡◌, ◌⊎◌, ◌*◌, List, length, pos, ◌<ℤ◌}
use Rattle.cayley.specs.Problems.{Problem, file_points}
use Rattle.cayley.specs.Cells.{Cell, IsOf, IsListOf}
use Rattle.cayley.specs.Lives.{AliveLate}
use Rattle.cayley.specs.Parents.{IsParent}
use Rattle.cayley.specs.Shares.{IsChildren}
use Rattle.path_trace.specs.declared.trace.TraceNode.{TraceNode}
use Rattle.path_trace.specs.Inverses.{IsInverseOver}
use Rattle.searcher.specs.Branches.{branches_of, children_of}
use Rattle.searcher.specs.Ends.{IsTiedAtEnd}
use Rattle.searcher.specs.Expansions.{HasLowestNormal}
use Rattle.log_check.specs.declared.judgement.Judgement.{Judgement}
use Rattle.log_check.specs.declared.judgement.Judgement.TheVariants.{Unfit, NotInverse, Tied, Inner, Endless, Target}
use Rattle.log_check.specs.Numbers.{FitsProducts, FitsNode}

-- n times n numbers over a number of at least 1
pub record HasShape (p : Problem) (node : TraceNode) : Type 0 where
  pub positive : pos 0 <ℤ node.scale
  pub long : length node.inverse ≡ p.dimension * p.dimension

-- the differences times the matrix are the number times the identity
abbrev pub HasInverse : Problem → TraceNode → Type 0
HasInverse p node = IsInverseOver p node.cell node.scale node.inverse

-- some number that is needed doesn't fit
abbrev pub IsUnfit : Problem → TraceNode → Type 0
IsUnfit p node = ¬ (FitsProducts p node) ⊎ (FitsProducts p node × HasInverse p node × ¬ (FitsNode p node))

-- the products fit, and aren't the number times the identity
abbrev pub IsOther : Problem → TraceNode → Type 0
IsOther p node = FitsProducts p node × ¬ (HasInverse p node)

-- the matrix is the inverse of the cell, and all numbers fit
pub record IsFit (p : Problem) (node : TraceNode) : Type 0 where
  pub products : FitsProducts p node
  pub inverse : HasInverse p node
  pub numbers : FitsNode p node

-- two further points are level where the cell ends
abbrev pub IsStopped : Problem → TraceNode → Type 0
IsStopped p node = IsFit p node × IsTiedAtEnd p node.cell

-- nothing speaks against the node, and the children of its cell are these
pub record Passes (p : Problem) (node : TraceNode) (kids : List Cell) : Type 0 where
  pub fit : IsFit p node
  pub untied : ¬ (IsTiedAtEnd p node.cell)
  pub children : IsListOf (λ kid. IsParent p node.cell kid) kids

-- what each judgement says
abbrev pub IsJudged : Problem → TraceNode → Judgement → Type 0
IsJudged p node Unfit = IsUnfit p node
IsJudged p node NotInverse = IsOther p node
IsJudged p node Tied = IsStopped p node
IsJudged p node (Inner children) = IsFit p node × ¬ (IsTiedAtEnd p node.cell) × ¬ (AliveLate p node.cell) × IsChildren p node.cell (branches_of (children_of children))
IsJudged p node Endless = IsFit p node × ¬ (IsTiedAtEnd p node.cell) × AliveLate p node.cell × ¬ (IsOf (file_points p) node.cell)
IsJudged p node (Target found) =
    IsFit p node × ¬ (IsTiedAtEnd p node.cell) × AliveLate p node.cell × IsOf (file_points p) node.cell × (found.cell ≡ node.cell) × HasLowestNormal p found
