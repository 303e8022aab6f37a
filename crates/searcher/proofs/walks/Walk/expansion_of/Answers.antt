use Rattle.searcher.proofs.ShownEnds.{tie_is, untied_is}
use Rattle.searcher.proofs.walks.Walk.expansion_of.Goals as goal

pub returns-clause-tie : goal.returns-clause-tie
returns-clause-tie g c = tie_is c.args.problem.now c.args.branch c.dim-dim.ensures.valid.shape.problem c.answer_of.result c.answer_of.ensures.answer

pub returns-clause-untied : goal.returns-clause-untied
returns-clause-untied g c = untied_is c.args.problem.now c.args.branch c.dim-dim.ensures.valid.shape.problem c.answer_of.result c.answer_of.ensures.answer
