use Rattle.searcher.specs.Turns.{IsTurned}
use Rattle.searcher.proofs.TurnAnswers.{tie_told, untied_told}
use Rattle.searcher.proofs.turning.turn.Goals as goal

pub returns-clause-tie : goal.returns-clause-tie
returns-clause-tie g c =
    let p = c.args.problem.now in
    let b = c.args.branch.now in
    tie_told p b c.dim-dim.ensures.valid.shape.problem (IsTurned p b c.args.left.now.items c.answer_turn.new.left.items) c.answer_turn.result c.answer_turn.ensures.answer

pub returns-clause-untied : goal.returns-clause-untied
returns-clause-untied g c =
    let p = c.args.problem.now in
    let b = c.args.branch.now in
    untied_told p b c.dim-dim.ensures.valid.shape.problem (IsTurned p b c.args.left.now.items c.answer_turn.new.left.items) c.answer_turn.result c.answer_turn.ensures.answer
