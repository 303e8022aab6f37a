use Rattle.std.proofs.Common.{refl}
use Rattle.searcher.proofs.FitWorkings.{unfit_walls}
use Rattle.searcher.proofs.PassedEnds.{unfit_halt}
use Rattle.searcher.proofs.passing.passed.Goals as goal

pub walls_of-requires : goal.walls_of-requires
walls_of-requires g c = c.requires.way.3.0

pub ended_by-requires-clause-answer : goal.ended_by-requires-clause-answer
ended_by-requires-clause-answer g c = c.in-Ok.ensures.answers.0

pub ended_by-requires-clause-walls : goal.ended_by-requires-clause-walls
ended_by-requires-clause-walls g c =
    let h = c.in-Ok.ensures in
    rw c.deref.ensures.value (c.in-Ok.walls.normal, record { moving = h.normal c.args.problem.now refl; places = h.places; sides = h.sides; fit = h.fit; dead = h.dead; life = h.life })

pub returns-in-Err-Overflow : goal.returns-in-Err-Overflow
returns-in-Err-Overflow g c =
    let n = rw c.in-Err-Overflow.field-0-is at c.in-Err-Overflow.ensures.working in
    unfit_halt c.args.problem.now c.args.cell.now c.requires.way c.copy.result c.copy.ensures (unfit_walls c.args.problem.now c.args.cell.now n)

pub unreachable-requires : goal.unreachable-requires
unreachable-requires g c =
    let d = rw c.in-Err-Dependent.field-0-is at c.in-Err-Dependent.ensures.dependent in
    absurd (((d tt).0 tt).1 c.requires.way.3.1)
