use Rattle.std.proofs.Common.{◌∙◌, subst}
use Rattle.cone_walls.specs.Ends.{IsFrontOf}
use Rattle.searcher.proofs.turning.carried_turn.Goals as goal

pub put_ended-answer-requires-clause-settled : goal.put_ended-answer-requires-clause-settled
put_ended-answer-requires-clause-settled g c = (c.requires.made.0, c.requires.carries.1 c.args.branch.now.cell c.requires.made.0, c.requires.made.1)

pub put_ended-answer-requires-clause-end : goal.put_ended-answer-requires-clause-end
put_ended-answer-requires-clause-end g c =
    let s = c.in-Some-seek.sought in
    subst (λ z. IsFrontOf c.args.problem.now z s.normal s.front) (c.in-Some.ensures.1 ∙ c.cell.ensures) c.in-Some-seek.ensures.found.2

pub cause_of-requires : goal.cause_of-requires
cause_of-requires g c = rw c.in-Err.is at c.put_ended-answer.ensures.answer

pub returns-in-Ok-clause-answer : goal.returns-in-Ok-clause-answer
returns-in-Ok-clause-answer g c = rw c.in-Ok.is at c.put_ended-answer.ensures.answer

pub returns-in-Err-clause-same : goal.returns-in-Err-clause-same
returns-in-Err-clause-same g c = rw c.in-Err.is at c.put_ended-answer.ensures.same
