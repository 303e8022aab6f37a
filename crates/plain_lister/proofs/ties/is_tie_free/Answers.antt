use Rattle.plain_lister.proofs.TieSearch.{answer_free, answer_fits, answer_named, answer_few, answer_refused}
use Rattle.plain_lister.proofs.ties.is_tie_free.Goals as goal

pub returns-clause-free : goal.returns-clause-free
returns-clause-free c = answer_free c.args.problem.now c.tie_by.result c.tie_by.ensures

pub returns-clause-fits : goal.returns-clause-fits
returns-clause-fits c = answer_fits c.args.problem.now c.tie_by.result c.tie_by.ensures

pub returns-clause-named : goal.returns-clause-named
returns-clause-named c = answer_named c.args.problem.now c.tie_by.result c.tie_by.ensures

pub returns-clause-few : goal.returns-clause-few
returns-clause-few c = answer_few c.args.problem.now c.tie_by.result c.tie_by.ensures

pub returns-clause-refused : goal.returns-clause-refused
returns-clause-refused c = answer_refused c.args.problem.now c.tie_by.result c.tie_by.ensures
