use Rattle.std.proofs.Common.{◌∙◌, ◌++◌, ◌∷◌, [], ap}
use Rattle.cayley.specs.Mixed.{IsMixedCell}
use Rattle.cayley.proofs.Order.Lined.{each_has}
use Rattle.searcher.proofs.PassLists.{there}
use Rattle.lift_move.proofs.Found.{next_cells, next_normals, unfit_among}
use Rattle.lift_move.proofs.moving.found_cells.Goals as goal

pub found_cell-requires-clause-mixed : goal.found_cell-requires-clause-mixed
found_cell-requires-clause-mixed c =
    each_has (IsMixedCell c.args.second.now) c.args.cells.now c.cell-item.result c.requires.mixed (there c.args.cells.now c.loop-cell.cell-index c.cell-item.result c.cell-item.is c.loop-cell-test.true)

pub returns-in-Err-clause-halt : goal.returns-in-Err-clause-halt
returns-in-Err-clause-halt c =
    unfit_among c.args.second.now c.args.cells.now c.cell-item.result c.in-Err.cause
    (there c.args.cells.now c.loop-cell.cell-index c.cell-item.result c.cell-item.is c.loop-cell-test.true) c.in-Err.ensures

pub loop-cell-preserved : goal.loop-cell-preserved
loop-cell-preserved c =
    let new = c.push_reserved.ensures.items ∙ ap (λ l. l ++ c.in-Ok.next ∷ []) c.reserve.ensures.items in
    record {
      cells = next_cells c.args.cells.now c.loop-cell.found.items c.push_reserved.new.self.items c.loop-cell.cell-index c.cell-item.result c.in-Ok.next c.cell-item.is c.loop-cell-test.true
          c.in-Ok.ensures.0 c.loop-cell.invariant.cells new;
      normals = next_normals c.args.second.now c.loop-cell.found.items c.push_reserved.new.self.items c.in-Ok.next c.in-Ok.ensures.1 c.loop-cell.invariant.normals new;
    }
