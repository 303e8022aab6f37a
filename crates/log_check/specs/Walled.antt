-- A node's normal and lines, for the inner functions.
use Rattle.std.specs.Prelude.{◌≡◌, List, All}
use Rattle.cayley.specs.Problems.{Problem}
use Rattle.crossing.specs.declared.line.WallLine.{WallLine}
use Rattle.crossing.specs.Lines.{FitsLine}
use Rattle.cone_walls.specs.Places.{AreOfFurtherPoints}
use Rattle.cone_walls.specs.Sides.{TellSides}
use Rattle.path_trace.specs.declared.trace.TraceNode.{TraceNode}
use Rattle.log_check.specs.declared.walls.Walled.{Walled}
use Rattle.log_check.specs.Numbers.{inverse_of, normal_of}

-- a line for each further point, which tells the point's side at every time
pub record HasLines (p : Problem) (node : TraceNode) (lines : List WallLine) : Type 0 where
  pub places : AreOfFurtherPoints p node.cell lines
  pub sides : TellSides p node.cell lines
  pub fit : All FitsLine lines

-- the numbers that the node's matrix gives
pub record IsWalled (p : Problem) (node : TraceNode) (w : Walled) : Type 0 where
  pub normal : w.normal ≡ normal_of p node
  pub inverse : w.inverse ≡ inverse_of p node
  pub lines : HasLines p node w.lines.items
