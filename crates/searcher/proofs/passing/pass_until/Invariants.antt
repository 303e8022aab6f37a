use Rattle.std.proofs.Common.{List, ◌++◌, drop, flat_map}
use Rattle.std.specs.Prelude.{IsPermutation}
use Rattle.cayley.specs.Cells.{Cell, IsListOf}
use Rattle.searcher.specs.Passes.{IsReachedFrom}
use Rattle.searcher.proofs.passing.pass_until.Given as goal

abbrev pub invariant-loop-cell : goal.invariant-loop-cell
invariant-loop-cell g l = (all : Cell → List Cell) → ((c : Cell) → IsListOf (IsReachedFrom l.problem c) (all c))
    → IsPermutation (flat_map all l.cells) (l.reached.items ++ flat_map all (drop l.cell-index l.cells))
