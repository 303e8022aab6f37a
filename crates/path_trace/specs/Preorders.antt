-- The preorder of a path tree.
use Rattle.std.specs.Prelude.{◌↔◌, List, [], ◌∷◌, ◌++◌, map, Contains}
use Rattle.cayley.specs.Problems.{Problem}
use Rattle.cayley.specs.Cells.{Cell, IsListOf}
use Rattle.cayley.specs.Parents.{IsParent, InChain}
use Rattle.path_trace.specs.declared.trace.TraceNode.{TraceNode}

-- the preorders of some cells one after the other: a cell, those of its children in cell order, and then those of the cells behind it
pub data ArePreorders (p : Problem) : List Cell → List Cell → Type 0 where
  none : ArePreorders p [] []
  next : {cell : Cell} {cells kids below after : List Cell} → IsListOf (λ kid. IsParent p cell kid) kids → ArePreorders p kids below → ArePreorders p cells after
      → ArePreorders p (cell ∷ cells) (cell ∷ (below ++ after))

-- the preorder of one cell: the cell itself, then the preorder of each of its children in cell order
abbrev pub IsPreorder : Problem → Cell → List Cell → Type 0
IsPreorder p cell cells = ArePreorders p (cell ∷ []) cells

abbrev pub cells_in : List TraceNode → List Cell
cells_in nodes = map (λ (node : TraceNode). node.cell) nodes

-- it has exactly the cells whose chain has the cell in it
abbrev pub PreorderLaw : Type 0
PreorderLaw = (p : Problem) (start : Cell) (cells : List Cell) → IsPreorder p start cells → (cell : Cell) → Contains cells cell ↔ InChain p start cell
