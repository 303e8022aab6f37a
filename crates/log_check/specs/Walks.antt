-- Nodes in order, and the cells that are due.
use Rattle.std.specs.Prelude.{◌≡◌, List, [], ◌∷◌, ◌++◌}
use Rattle.int_vectors.specs.Vectors.{Each}
use Rattle.cayley.specs.Problems.{Problem}
use Rattle.cayley.specs.Cells.{Cell}
use Rattle.path_trace.specs.declared.trace.TraceNode.{TraceNode}
use Rattle.path_trace.specs.Preorders.{ArePreorders, cells_in}
use Rattle.searcher.specs.Ends.{IsTiedAtEnd}
use Rattle.log_check.specs.Nodes.{IsFit, Passes}

-- the nodes in order pass, each of the cell that is due next; its children are due then, before all that were due
pub data Leads (p : Problem) : List Cell → List TraceNode → List Cell → Type 0 where
  none : {due : List Cell} → Leads p due [] due
  next : {cell : Cell} {node : TraceNode} {nodes : List TraceNode} {kids due left : List Cell} → node.cell ≡ cell → Passes p node kids → Leads p (kids ++ due) nodes left → Leads p (cell ∷ due) (node ∷ nodes) left

-- where nothing is due at the end, the nodes are the preorders of the cells that were due
abbrev pub WalkLaw : Type 0
WalkLaw = (p : Problem) (due : List Cell) (nodes : List TraceNode) → Leads p due nodes [] → ArePreorders p due (cells_in nodes)

-- nodes that are these preorders, each with its inverse and numbers that fit, and no cell tied where it ends, lead to nothing that is due
abbrev pub PreorderWalkLaw : Type 0
PreorderWalkLaw = (p : Problem) (due : List Cell) (nodes : List TraceNode) → ArePreorders p due (cells_in nodes) → Each nodes (λ node. IsFit p node × ¬ (IsTiedAtEnd p node.cell)) → Leads p due nodes []
