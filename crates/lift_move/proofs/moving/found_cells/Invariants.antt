use Rattle.std.proofs.Common.{◌≡◌, take}
use Rattle.int_vectors.specs.Vectors.{Each}
use Rattle.cayley.specs.Stored.{cells_of}
use Rattle.searcher.specs.Expansions.{HasLowestNormal}
use Rattle.lift_move.proofs.moving.found_cells.Given as goal

abbrev pub invariant-loop-cell : goal.invariant-loop-cell
invariant-loop-cell l = record {
  cells : cells_of l.found.items ≡ take l.cell-index l.cells;
  normals : Each l.found.items (HasLowestNormal l.second);
}
