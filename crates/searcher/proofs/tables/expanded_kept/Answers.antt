use Rattle.std.proofs.Common.{rules, IsTrue, ◌∙◌, refl, sym, subst}
use Rattle.cayley.specs.Cells.{IsOf}
use Rattle.cone_walls.specs.Workings.{FitsWallWorking}
use Rattle.searcher.specs.CellWalls.{AreLinesOf}
use Rattle.searcher.proofs.SettledBranches.{dependent_stranger, walls_overflow}
use Rattle.searcher.proofs.tables.expanded_kept.Goals as goal

pub settled-requires-clause-walls : goal.settled-requires-clause-walls
settled-requires-clause-walls g c =
    let p = c.args.problem.now in
    let h = c.in-Ok.ensures in
    let w = c.in-Ok.walls in
    subst (λ z. AreLinesOf p z w.normal w.lines.items) c.cell-2.ensures
    (record { moving = h.normal p refl; places = h.places; sides = h.sides; fit = h.fit; dead = h.dead; life = h.life })

pub settled-requires-clause-whole : goal.settled-requires-clause-whole
settled-requires-clause-whole g c = subst (FitsWallWorking c.args.problem.now) c.cell-2.ensures c.in-Ok.ensures.whole

pub returns-in-Err-Overflow-clause-answer : goal.returns-in-Err-Overflow-clause-answer
returns-in-Err-Overflow-clause-answer g c =
    let p = c.args.problem.now in
    let n = rw c.in-Err-Overflow.field-0-is at c.in-Err-Overflow.ensures.working in
    let t : IsTrue c.contains.result = search rules in
    let of = subst (IsOf p) c.cell.ensures (c.contains.ensures.0 t) in
    (walls_overflow p c.args.branch.now of (λ h. n (subst (FitsWallWorking p) (sym c.cell-2.ensures) h)), c.copy.ensures ∙ c.cell-in-Err-Overflow.ensures)

pub returns-in-Err-Dependent-clause-answer : goal.returns-in-Err-Dependent-clause-answer
returns-in-Err-Dependent-clause-answer g c =
    let w = rw c.in-Err-Dependent.field-0-is at c.in-Err-Dependent.ensures.working in
    let d = rw c.in-Err-Dependent.field-0-is at c.in-Err-Dependent.ensures.dependent in
    dependent_stranger c.args.problem.now c.args.branch.now c.cell-2.result.now c.cell-2.ensures _ w.0 w.1 ((d tt).0 tt).1
