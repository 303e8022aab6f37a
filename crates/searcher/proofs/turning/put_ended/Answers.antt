use Rattle.std.proofs.Common.{refl, sym, subst}
use Rattle.cayley.specs.Shares.{IsChildren}
use Rattle.searcher.specs.declared.expansions.Expansion.TheVariants.{Inner}
use Rattle.searcher.specs.Branches.{branches_of, children_of}
use Rattle.cone_walls.specs.Fronts.{place_by}
use Rattle.searcher.specs.Workings.{FitsWorking}
use Rattle.searcher.proofs.MadeEnds.{IsAtPoint, IsAtWall, at_point, at_wall, at_inner, at_no_end, at_tie, ends_never, ends_one, ends_two}
use Rattle.searcher.proofs.TurnAnswers.{mixed_turned}
use Rattle.searcher.proofs.turning.put_ended.Goals as goal

pub mixed-requires-clause-untied : goal.mixed-requires-clause-untied
mixed-requires-clause-untied c =
    let p = c.args.problem.now in
    let b = c.args.branch.now in
    (at_no_end p b c.dim-dim.ensures.valid.shape.problem c.requires.settled c.args.normal c.requires.untied (ends_never p b.cell c.args.normal c.args.front.now c.in-Empty.is c.requires.end)).0

pub mixed-requires-clause-late : goal.mixed-requires-clause-late
mixed-requires-clause-late c =
    let p = c.args.problem.now in
    let b = c.args.branch.now in
    (at_no_end p b c.dim-dim.ensures.valid.shape.problem c.requires.settled c.args.normal c.requires.untied (ends_never p b.cell c.args.normal c.args.front.now c.in-Empty.is c.requires.end)).1

pub signs_by-requires-clause-point : goal.signs_by-requires-clause-point
signs_by-requires-clause-point c =
    let p = c.args.problem.now in
    let b = c.args.branch.now in
    subst (λ z. IsAtPoint p z (place_by c.in-One.fall)) (sym c.requires.cell)
    (at_point p b c.dim-dim.ensures.valid.shape.problem c.requires.settled c.args.normal c.time_of-time.result (place_by c.in-One.fall) (ends_one p b.cell c.args.normal c.args.front.now c.in-One.fall c.in-One.is c.requires.end c.time_of-time.result c.time_of-time.ensures))

pub signs_by-requires-clause-fits : goal.signs_by-requires-clause-fits
signs_by-requires-clause-fits c = subst (FitsWorking c.args.problem.now) (sym c.requires.cell) c.requires.settled.1

pub put_children_by-requires-clause-point : goal.put_children_by-requires-clause-point
put_children_by-requires-clause-point c =
    let p = c.args.problem.now in
    let b = c.args.branch.now in
    subst (λ z. IsAtPoint p z (place_by c.in-One.fall)) (sym c.requires.cell)
    (at_point p b c.dim-dim.ensures.valid.shape.problem c.requires.settled c.args.normal c.time_of-time.result (place_by c.in-One.fall) (ends_one p b.cell c.args.normal c.args.front.now c.in-One.fall c.in-One.is c.requires.end c.time_of-time.result c.time_of-time.ensures))

pub put_children_by-requires-clause-wall : goal.put_children_by-requires-clause-wall
put_children_by-requires-clause-wall c =
    let p = c.args.problem.now in
    let b = c.args.branch.now in
    subst (λ z. IsAtWall p z c.time_of-time.result (place_by c.in-One.fall)) (sym c.requires.cell)
    (at_wall p b c.dim-dim.ensures.valid.shape.problem c.requires.settled c.args.normal c.time_of-time.result (place_by c.in-One.fall) (ends_one p b.cell c.args.normal c.args.front.now c.in-One.fall c.in-One.is c.requires.end c.time_of-time.result c.time_of-time.ensures))

pub returns-in-Empty-clause-answer : goal.returns-in-Empty-clause-answer
returns-in-Empty-clause-answer c = mixed_turned c.args.problem.now c.args.branch.now c.args.left.now.items c.mixed.result c.mixed.ensures

pub returns-in-Ok-clause-answer : goal.returns-in-Ok-clause-answer
returns-in-Ok-clause-answer c =
    let p = c.args.problem.now in
    let b = c.args.branch.now in
    let put = c.put_children_by.ensures in (
      Inner put.0,
      (
        at_inner p b c.dim-dim.ensures.valid.shape.problem c.requires.settled c.args.normal c.requires.untied c.time_of-time.result (place_by c.in-One.fall) (ends_one p b.cell c.args.normal c.args.front.now c.in-One.fall c.in-One.is c.requires.end c.time_of-time.result c.time_of-time.ensures),
        subst (λ z. IsChildren p z (branches_of (children_of put.0))) c.requires.cell put.2,
      ),
      put.1,
      refl,
    )

pub returns-in-Two-clause-answer : goal.returns-in-Two-clause-answer
returns-in-Two-clause-answer c =
    let p = c.args.problem.now in
    let b = c.args.branch.now in
    let f = rw c.in-Two.is at c.requires.falls in (
      f.0,
      λ u t.
          at_tie p b c.dim-dim.ensures.valid.shape.problem c.requires.settled c.args.normal c.requires.untied u (place_by c.in-Two.fall) (place_by c.in-Two.other) (ends_two p b.cell c.args.normal c.args.front.now c.in-Two.fall c.in-Two.other c.in-Two.is c.requires.end u t),
    )
