-- What is written down of a path tree.
use Rattle.std.specs.Prelude.{length}
use Rattle.int_vectors.specs.Vectors.{Each}
use Rattle.cayley.specs.Problems.{Problem}
use Rattle.cayley.specs.Paths.{start_cell}
use Rattle.cayley.specs.Shares.{IsShare}
use Rattle.cayley.specs.Stored.{cells_of}
use Rattle.start_system.specs.Started.{start_branch, IsTreeSize}
use Rattle.searcher.specs.Workings.{FitsWorking}
use Rattle.searcher.specs.Ends.{IsTiedAtEnd}
use Rattle.searcher.specs.Expansions.{HasLowestNormal}
use Rattle.path_trace.specs.declared.trace.Trace.{Trace}
use Rattle.path_trace.specs.Preorders.{IsPreorder, cells_in}
use Rattle.path_tracer.specs.Nodes.{HasInverse, FitsNumbers}

-- the path tree in preorder, each cell with its inverse and a working that fits, none tied where it ends; and the share of the start branch with its normals in lowest terms
pub record IsTraced (p : Problem) (trace : Trace) : Type 0 where
  pub preorder : IsPreorder p (start_cell p) (cells_in trace.nodes.items)
  pub size : IsTreeSize p (length trace.nodes.items)
  pub inverses : Each trace.nodes.items (HasInverse p)
  pub fits : Each trace.nodes.items FitsNumbers
  pub workings : Each trace.nodes.items (λ node. FitsWorking p node.cell)
  pub untied : Each trace.nodes.items (λ node. ¬ (IsTiedAtEnd p node.cell))
  pub found : IsShare p (start_branch p) (cells_of trace.found.items)
  pub normals : Each trace.found.items (HasLowestNormal p)
