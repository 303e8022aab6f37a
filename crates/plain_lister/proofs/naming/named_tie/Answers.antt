use Rattle.std.proofs.Common.{refl, subst, sym}
use Rattle.crossing.specs.Ties.{IsTie, HasNoTie}
use Rattle.plain_lister.specs.TieProgress.{HasPlaces, IsByPoints}
use Rattle.plain_lister.proofs.LineTies.{untied_cell, named_points, tie_places}
use Rattle.plain_lister.proofs.TieSearch.{dependent_untied}
use Rattle.plain_lister.proofs.naming.named_tie.Goals as goal

pub returns-in-Err-Dependent : goal.returns-in-Err-Dependent
returns-in-Err-Dependent g c =
    let w = rw c.in-Err-Dependent.field-0-is at c.in-Err-Dependent.ensures.working in
    let d = rw c.in-Err-Dependent.field-0-is at c.in-Err-Dependent.ensures.dependent in
    dependent_untied c.args.problem.now c.args.cell.now _ w.0 w.1 ((d tt).0 tt).1

pub returns-in-None : goal.returns-in-None
returns-in-None g c =
    let r = c.requires in
    let p = c.args.problem.now in
    let cell = c.args.cell.now in
    let ls = c.in-Ok.walls.lines.items in
    let e = c.in-Ok.ensures in
    (e.whole, untied_cell p cell r.valid.shape.problem r.of (e.normal p refl).independent ls e.places e.sides (subst HasNoTie c.deref.ensures.value c.in-None.ensures))

pub by_points-requires : goal.by_points-requires
by_points-requires g c =
    let ls = c.in-Ok.walls.lines.items in
    let tie = c.in-Some.tie in
    subst (λ l. HasPlaces l tie) (sym c.deref-in-Some.ensures.value) (tie_places ls tie (subst (λ l. IsTie l tie) c.deref.ensures.value c.in-Some.ensures))

pub returns : goal.returns
returns g c =
    let r = c.requires in
    let p = c.args.problem.now in
    let cell = c.args.cell.now in
    let ls = c.in-Ok.walls.lines.items in
    let e = c.in-Ok.ensures in
    let tie = c.in-Some.tie in
    let found = c.by_points.result in (
      e.whole,
      named_points p cell r.valid.shape.problem r.of (e.normal p refl).independent ls e.places e.sides tie found (subst (λ l. IsTie l tie) c.deref.ensures.value c.in-Some.ensures)
          (subst (λ l. IsByPoints l tie found) c.deref-in-Some.ensures.value c.by_points.ensures),
    )
