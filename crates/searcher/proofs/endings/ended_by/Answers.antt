use Rattle.std.proofs.Common.{◌∙◌, sym, ap, subst}
use Rattle.std.specs.Prelude.{Some}
use Rattle.cayley.specs.Cells.{Cell}
use Rattle.cayley.specs.Shares.{IsChildren}
use Rattle.searcher.specs.declared.expansions.HaltCause.TheVariants as cause
use Rattle.searcher.specs.Branches.{branches_of, children_of}
use Rattle.cone_walls.specs.Fronts.{place_by}
use Rattle.searcher.specs.Expansions.{IsCause}
use Rattle.searcher.specs.Workings.{FitsWorking}
use Rattle.searcher.proofs.MadeEnds.{IsAtPoint, IsAtWall, at_point, at_wall, at_inner, at_no_end, at_tie, ends_never, ends_one, ends_two}
use Rattle.searcher.proofs.endings.ended_by.Goals as goal

pub endless-requires-clause-untied : goal.endless-requires-clause-untied
endless-requires-clause-untied c =
    let p = c.args.problem.now in
    let b = c.args.branch.now in
    (at_no_end p b c.dim-dim.ensures.valid.shape.problem c.requires.settled c.args.normal c.requires.untied (ends_never p b.cell c.args.normal c.args.front.now c.in-Empty.is c.requires.end)).0

pub endless-requires-clause-late : goal.endless-requires-clause-late
endless-requires-clause-late c =
    let p = c.args.problem.now in
    let b = c.args.branch.now in
    (at_no_end p b c.dim-dim.ensures.valid.shape.problem c.requires.settled c.args.normal c.requires.untied (ends_never p b.cell c.args.normal c.args.front.now c.in-Empty.is c.requires.end)).1

pub signs_by-requires-clause-point : goal.signs_by-requires-clause-point
signs_by-requires-clause-point c =
    let p = c.args.problem.now in
    let b = c.args.branch.now in
    subst (λ z. IsAtPoint p z (place_by c.in-One.fall)) (sym c.requires.cell)
    (at_point p b c.dim-dim.ensures.valid.shape.problem c.requires.settled c.args.normal c.time_of-time.result (place_by c.in-One.fall) (ends_one p b.cell c.args.normal c.args.front.now c.in-One.fall c.in-One.is c.requires.end c.time_of-time.result c.time_of-time.ensures))

pub signs_by-requires-clause-fits : goal.signs_by-requires-clause-fits
signs_by-requires-clause-fits c = subst (FitsWorking c.args.problem.now) (sym c.requires.cell) c.requires.settled.1

pub kept_by-children-requires-clause-point : goal.kept_by-children-requires-clause-point
kept_by-children-requires-clause-point c =
    let p = c.args.problem.now in
    let b = c.args.branch.now in
    subst (λ z. IsAtPoint p z (place_by c.in-One.fall)) (sym c.requires.cell)
    (at_point p b c.dim-dim.ensures.valid.shape.problem c.requires.settled c.args.normal c.time_of-time.result (place_by c.in-One.fall) (ends_one p b.cell c.args.normal c.args.front.now c.in-One.fall c.in-One.is c.requires.end c.time_of-time.result c.time_of-time.ensures))

pub kept_by-children-requires-clause-wall : goal.kept_by-children-requires-clause-wall
kept_by-children-requires-clause-wall c =
    let p = c.args.problem.now in
    let b = c.args.branch.now in
    subst (λ z. IsAtWall p z c.time_of-time.result (place_by c.in-One.fall)) (sym c.requires.cell)
    (at_wall p b c.dim-dim.ensures.valid.shape.problem c.requires.settled c.args.normal c.time_of-time.result (place_by c.in-One.fall) (ends_one p b.cell c.args.normal c.args.front.now c.in-One.fall c.in-One.is c.requires.end c.time_of-time.result c.time_of-time.ensures))

pub returns-in-Ok : goal.returns-in-Ok
returns-in-Ok c =
    let p = c.args.problem.now in
    let b = c.args.branch.now in (
      at_inner p b c.dim-dim.ensures.valid.shape.problem c.requires.settled c.args.normal c.requires.untied c.time_of-time.result (place_by c.in-One.fall) (ends_one p b.cell c.args.normal c.args.front.now c.in-One.fall c.in-One.is c.requires.end c.time_of-time.result c.time_of-time.ensures),
      subst (λ z. IsChildren p z (branches_of (children_of c.kept_by-children.result))) c.requires.cell c.kept_by-children.ensures,
    )

pub returns-in-Two : goal.returns-in-Two
returns-in-Two c =
    let p = c.args.problem.now in
    let b = c.args.branch.now in
    let k = c.tie_between.ensures in
    let h = at_tie p b c.dim-dim.ensures.valid.shape.problem c.requires.settled c.args.normal c.requires.untied k.0 (place_by c.in-Two.fall) (place_by c.in-Two.other) (ends_two p b.cell c.args.normal c.args.front.now c.in-Two.fall c.in-Two.other c.in-Two.is c.requires.end k.0 k.1) in
    subst (λ z. IsCause p b (cause.Tie z)) (sym (k.2 ∙ ap (λ (z : Cell). record { cell = z; time = k.0; first = place_by c.in-Two.fall; second = Some (place_by c.in-Two.other) }) c.cell.ensures)) h
