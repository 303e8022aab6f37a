use Rattle.std.proofs.Common.{List, ◌≡◌, ◌∙◌, sym, subst}
use Rattle.int_vectors.specs.Vectors.{Each}
use Rattle.cayley.specs.Mixed.{IsMixedCell}
use Rattle.lift_move.specs.Moves.{AreUnfit}
use Rattle.lift_move.proofs.Found.{own, still, all_mixed, moved, moved_mixed, moved_full, unfit_halt, way_halt, halt_untied, halt_fits}
use Rattle.lift_move.proofs.moving.move_cells.Goals as goal

pub returns-in-Err-clause-untied : goal.returns-in-Err-clause-untied
returns-in-Err-clause-untied g c = λ generic.
    let p = c.args.segment.now in
    let well = c.dim-first.ensures.valid.shape.problem in
    halt_untied p c.args.second.now well c.requires.segment c.dim-dim.ensures.valid c.requires.second c.args.cells.now generic c.in-Err.cause
    (way_halt p c.args.second.now well c.requires.segment c.dim-dim.ensures.valid c.requires.second c.args.cells.now c.in-Err.cause c.in-Err.ensures.halt)

pub found_cells-requires-clause-own : goal.found_cells-requires-clause-own
found_cells-requires-clause-own g c =
    own c.args.segment.now c.args.second.now c.dim-first.ensures.valid.shape.problem c.requires.segment c.dim-dim.ensures.valid c.requires.second c.args.cells.now

pub found_cells-requires-clause-still : goal.found_cells-requires-clause-still
found_cells-requires-clause-still g c =
    still c.args.segment.now c.args.second.now c.dim-first.ensures.valid.shape.problem c.requires.segment c.dim-dim.ensures.valid c.requires.second c.args.cells.now

pub found_cells-requires-clause-mixed : goal.found_cells-requires-clause-mixed
found_cells-requires-clause-mixed g c =
    subst (λ l. Each l (IsMixedCell c.args.second.now)) (sym c.deref.ensures.value)
    (all_mixed c.args.segment.now c.args.second.now c.dim-first.ensures.valid.shape.problem c.requires.segment c.dim-dim.ensures.valid c.requires.second c.args.cells.now
    c.in-Ok.reached.items c.in-Ok.ensures.reached)

pub returns-in-Ok-found_cells-clause-answer : goal.returns-in-Ok-found_cells-clause-answer
returns-in-Ok-found_cells-clause-answer g c =
    moved c.args.segment.now c.args.second.now c.dim-first.ensures.valid.shape.problem c.requires.segment c.dim-dim.ensures.valid c.requires.second c.args.cells.now
    c.in-Ok.reached.items c.in-Ok.ensures.reached c.in-Ok-found_cells.found.items (c.in-Ok-found_cells.ensures.cells ∙ c.deref.ensures.value) c.in-Ok-found_cells.ensures.normals

pub returns-in-Ok-found_cells-clause-mixed : goal.returns-in-Ok-found_cells-clause-mixed
returns-in-Ok-found_cells-clause-mixed g c =
    moved_mixed c.args.segment.now c.args.second.now c.dim-first.ensures.valid.shape.problem c.requires.segment c.dim-dim.ensures.valid c.requires.second c.args.cells.now
    c.in-Ok.reached.items c.in-Ok.ensures.reached c.in-Ok-found_cells.found.items (c.in-Ok-found_cells.ensures.cells ∙ c.deref.ensures.value)

pub returns-in-Ok-found_cells-clause-full : goal.returns-in-Ok-found_cells-clause-full
returns-in-Ok-found_cells-clause-full g c = λ generic all.
    moved_full c.args.segment.now c.args.second.now c.dim-first.ensures.valid.shape.problem c.requires.segment c.dim-dim.ensures.valid c.requires.second c.args.cells.now
    c.in-Ok.reached.items c.in-Ok.ensures.reached generic all c.in-Ok-found_cells.found.items (c.in-Ok-found_cells.ensures.cells ∙ c.deref.ensures.value)

pub returns-in-Err-clause-answer : goal.returns-in-Err-clause-answer
returns-in-Err-clause-answer g c = way_halt c.args.segment.now c.args.second.now c.dim-first.ensures.valid.shape.problem c.requires.segment c.dim-dim.ensures.valid c.requires.second c.args.cells.now c.in-Err.cause c.in-Err.ensures.halt

pub returns-in-Err-clause-complete : goal.returns-in-Err-clause-complete
returns-in-Err-clause-complete g c = λ fits.
    halt_fits c.args.segment.now c.args.second.now c.dim-first.ensures.valid.shape.problem c.requires.segment c.dim-dim.ensures.valid c.requires.second c.args.cells.now fits c.in-Err.cause
    (way_halt c.args.segment.now c.args.second.now c.dim-first.ensures.valid.shape.problem c.requires.segment c.dim-dim.ensures.valid c.requires.second c.args.cells.now c.in-Err.cause c.in-Err.ensures.halt)
