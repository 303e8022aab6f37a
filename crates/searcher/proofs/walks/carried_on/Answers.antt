use Rattle.std.proofs.Common.{◌∙◌, subst}
use Rattle.cone_walls.specs.Ends.{IsFrontOf}
use Rattle.searcher.proofs.walks.carried_on.Goals as goal

pub ended_by-answer-requires-clause-settled : goal.ended_by-answer-requires-clause-settled
ended_by-answer-requires-clause-settled g c = (c.requires.made.0, c.requires.carries.1 c.args.branch.cell c.requires.made.0, c.requires.made.1)

pub ended_by-answer-requires-clause-end : goal.ended_by-answer-requires-clause-end
ended_by-answer-requires-clause-end g c =
    let s = c.in-Some-seek.sought in
    subst (λ z. IsFrontOf c.args.problem.now z s.normal s.front) (c.in-Some.ensures.1 ∙ c.cell.ensures) c.in-Some-seek.ensures.found.2
