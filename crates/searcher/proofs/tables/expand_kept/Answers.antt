use Rattle.searcher.proofs.OneAnswer.{exactly_is}
use Rattle.searcher.proofs.ShownEnds.{tie_is, untied_is}
use Rattle.searcher.proofs.tables.expand_kept.Goals as goal

pub returns-clause-exactly : goal.returns-clause-exactly
returns-clause-exactly g c = exactly_is c.args.problem.now c.args.branch c.answered_kept.result c.answered_kept.ensures.answer

pub returns-clause-tie : goal.returns-clause-tie
returns-clause-tie g c = tie_is c.args.problem.now c.args.branch c.dim-dim.ensures.valid.shape.problem c.answered_kept.result c.answered_kept.ensures.answer

pub returns-clause-untied : goal.returns-clause-untied
returns-clause-untied g c = untied_is c.args.problem.now c.args.branch c.dim-dim.ensures.valid.shape.problem c.answered_kept.result c.answered_kept.ensures.answer
