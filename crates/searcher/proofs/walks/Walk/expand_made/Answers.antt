use Rattle.searcher.proofs.OneAnswer.{exactly_is}
use Rattle.searcher.proofs.walks.Walk.expand_made.Goals as goal

pub returns-clause-exactly : goal.returns-clause-exactly
returns-clause-exactly g c = exactly_is c.args.problem.now c.args.branch c.expansion_of.result c.expansion_of.ensures.answer
