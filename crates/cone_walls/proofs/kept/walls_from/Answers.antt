use Rattle.std.proofs.Common.{◌≡◌, ◌↔◌, []}
use Rattle.int_vectors.specs.Vectors.{Each}
use Rattle.cayley.specs.Problems.{Problem, unperturbed, HasSamePoints}
use Rattle.cayley.specs.Rows.{edge_rows}
use Rattle.crossing.specs.Entries.{IsEntry}
use Rattle.crossing.specs.declared.entry.Entry.TheVariants.{Dead}
use Rattle.inner_normal.proofs.CellAnswers.{beyond_kernel, ok_answer, overflow_answer, dependent_answer, kernel_answer}
use Rattle.cone_walls.specs.declared.walls.Walls.{Walls}
use Rattle.cone_walls.specs.Fines.{HasFine}
use Rattle.cone_walls.specs.Lives.{IsNeverAlive, LivesBetween}
use Rattle.cone_walls.specs.Made.{IsMade}
use Rattle.cone_walls.specs.Places.{AreOfFurtherPoints, HasNumbers}
use Rattle.cone_walls.specs.Sides.{TellSides, TellSidesAt}
use Rattle.cone_walls.specs.Workings.{FitsRest, FitsWallWorking}
use Rattle.cone_walls.proofs.Making.{made_fits, made_independent, made_places, made_values, made_fine, made_plain, made_sides, made_coarse, made_dead, made_life}
use Rattle.cone_walls.proofs.kept.walls_from.Goals as goal

pub returns-clause-places : goal.returns-clause-places
returns-clause-places g c =
    let p = c.args.problem.now in
    let cell = c.args.cell.now in
    ok_answer (λ (w : Walls). IsMade p cell w.reduced w.normal w.lines.items) (FitsWallWorking p cell) p cell c.dim-dim.ensures.valid.shape.problem c.requires (λ w h. made_fits p cell w.reduced w.normal w.lines.items h) (beyond_kernel p.dimension (edge_rows p cell) (FitsRest p cell)) (λ (w : Walls). AreOfFurtherPoints p cell w.lines.items)
    c.made_from.result (λ w h. made_places p cell w.reduced w.normal w.lines.items h) c.made_from.ensures

pub returns-clause-values : goal.returns-clause-values
returns-clause-values g c =
    let p = c.args.problem.now in
    let cell = c.args.cell.now in
    ok_answer (λ (w : Walls). IsMade p cell w.reduced w.normal w.lines.items) (FitsWallWorking p cell) p cell c.dim-dim.ensures.valid.shape.problem c.requires (λ w h. made_fits p cell w.reduced w.normal w.lines.items h) (beyond_kernel p.dimension (edge_rows p cell) (FitsRest p cell)) (λ (w : Walls). Each w.lines.items (HasNumbers p cell w.normal))
    c.made_from.result (λ w h. made_values p cell w.reduced w.normal w.lines.items h) c.made_from.ensures

pub returns-clause-fine : goal.returns-clause-fine
returns-clause-fine g c =
    let p = c.args.problem.now in
    let cell = c.args.cell.now in
    ok_answer (λ (w : Walls). IsMade p cell w.reduced w.normal w.lines.items) (FitsWallWorking p cell) p cell c.dim-dim.ensures.valid.shape.problem c.requires (λ w h. made_fits p cell w.reduced w.normal w.lines.items h) (beyond_kernel p.dimension (edge_rows p cell) (FitsRest p cell)) (λ (w : Walls). Each w.lines.items (HasFine p cell w.reduced))
    c.made_from.result (λ w h. made_fine p cell w.reduced w.normal w.lines.items h) c.made_from.ensures

pub returns-clause-plain : goal.returns-clause-plain
returns-clause-plain g c v =
    let p = c.args.problem.now in
    let cell = c.args.cell.now in
    ok_answer (λ (w : Walls). IsMade p cell w.reduced w.normal w.lines.items) (FitsWallWorking p cell) p cell c.dim-dim.ensures.valid.shape.problem c.requires (λ w h. made_fits p cell w.reduced w.normal w.lines.items h) (beyond_kernel p.dimension (edge_rows p cell) (FitsRest p cell)) (λ (w : Walls). Each w.lines.items (λ line. line.fine ≡ []))
    c.made_from.result (λ w h. made_plain p cell w.reduced w.normal w.lines.items h c.dim-dim.ensures.valid.ranks v) c.made_from.ensures

pub returns-clause-sides : goal.returns-clause-sides
returns-clause-sides g c =
    let p = c.args.problem.now in
    let cell = c.args.cell.now in
    ok_answer (λ (w : Walls). IsMade p cell w.reduced w.normal w.lines.items) (FitsWallWorking p cell) p cell c.dim-dim.ensures.valid.shape.problem c.requires (λ w h. made_fits p cell w.reduced w.normal w.lines.items h) (beyond_kernel p.dimension (edge_rows p cell) (FitsRest p cell)) (λ (w : Walls). TellSides p cell w.lines.items)
    c.made_from.result (λ w h. made_sides p cell w.reduced w.normal w.lines.items h) c.made_from.ensures

pub returns-clause-coarse : goal.returns-clause-coarse
returns-clause-coarse g c =
    let p = c.args.problem.now in
    let cell = c.args.cell.now in
    ok_answer (λ (w : Walls). IsMade p cell w.reduced w.normal w.lines.items) (FitsWallWorking p cell) p cell c.dim-dim.ensures.valid.shape.problem c.requires (λ w h. made_fits p cell w.reduced w.normal w.lines.items h) (beyond_kernel p.dimension (edge_rows p cell) (FitsRest p cell)) (λ (w : Walls). (q : Problem) → HasSamePoints q p → TellSidesAt (unperturbed q) cell w.lines.items)
    c.made_from.result (λ w h. made_coarse p cell w.reduced w.normal w.lines.items h) c.made_from.ensures

pub returns-clause-dead : goal.returns-clause-dead
returns-clause-dead g c =
    let p = c.args.problem.now in
    let cell = c.args.cell.now in
    ok_answer (λ (w : Walls). IsMade p cell w.reduced w.normal w.lines.items) (FitsWallWorking p cell) p cell c.dim-dim.ensures.valid.shape.problem c.requires (λ w h. made_fits p cell w.reduced w.normal w.lines.items h) (beyond_kernel p.dimension (edge_rows p cell) (FitsRest p cell)) (λ (w : Walls). IsNeverAlive p cell ↔ IsEntry w.lines.items Dead)
    c.made_from.result (λ w h. made_dead p cell w.reduced w.normal w.lines.items h) c.made_from.ensures

pub returns-clause-life : goal.returns-clause-life
returns-clause-life g c =
    let p = c.args.problem.now in
    let cell = c.args.cell.now in
    ok_answer (λ (w : Walls). IsMade p cell w.reduced w.normal w.lines.items) (FitsWallWorking p cell) p cell c.dim-dim.ensures.valid.shape.problem c.requires (λ w h. made_fits p cell w.reduced w.normal w.lines.items h) (beyond_kernel p.dimension (edge_rows p cell) (FitsRest p cell)) (λ (w : Walls). LivesBetween p cell w.lines.items)
    c.made_from.result (λ w h. made_life p cell w.reduced w.normal w.lines.items h) c.made_from.ensures

pub returns-clause-whole : goal.returns-clause-whole
returns-clause-whole g c =
    let p = c.args.problem.now in
    let cell = c.args.cell.now in
    ok_answer (λ (w : Walls). IsMade p cell w.reduced w.normal w.lines.items) (FitsWallWorking p cell) p cell c.dim-dim.ensures.valid.shape.problem c.requires (λ w h. made_fits p cell w.reduced w.normal w.lines.items h) (beyond_kernel p.dimension (edge_rows p cell) (FitsRest p cell)) (λ (w : Walls). FitsWallWorking p cell)
    c.made_from.result (λ w h. made_fits p cell w.reduced w.normal w.lines.items h) c.made_from.ensures

pub returns-clause-overflow : goal.returns-clause-overflow
returns-clause-overflow g c =
    let p = c.args.problem.now in
    let cell = c.args.cell.now in
    overflow_answer (λ (w : Walls). IsMade p cell w.reduced w.normal w.lines.items) (FitsWallWorking p cell) p cell c.dim-dim.ensures.valid.shape.problem c.requires (λ w h. made_fits p cell w.reduced w.normal w.lines.items h) (beyond_kernel p.dimension (edge_rows p cell) (FitsRest p cell)) c.made_from.result c.made_from.ensures

pub returns-clause-dependent : goal.returns-clause-dependent
returns-clause-dependent g c =
    let p = c.args.problem.now in
    let cell = c.args.cell.now in
    dependent_answer (λ (w : Walls). IsMade p cell w.reduced w.normal w.lines.items) (FitsWallWorking p cell) p cell c.dim-dim.ensures.valid.shape.problem c.requires (λ w h. made_fits p cell w.reduced w.normal w.lines.items h) (beyond_kernel p.dimension (edge_rows p cell) (FitsRest p cell))
    (λ w h. made_independent p cell w.reduced w.normal w.lines.items h) c.made_from.result c.made_from.ensures

pub returns-clause-kernel : goal.returns-clause-kernel
returns-clause-kernel g c =
    let p = c.args.problem.now in
    let cell = c.args.cell.now in
    kernel_answer (λ (w : Walls). IsMade p cell w.reduced w.normal w.lines.items) (FitsWallWorking p cell) p cell c.dim-dim.ensures.valid.shape.problem c.requires (λ w h. made_fits p cell w.reduced w.normal w.lines.items h) (beyond_kernel p.dimension (edge_rows p cell) (FitsRest p cell)) c.made_from.result c.made_from.ensures
