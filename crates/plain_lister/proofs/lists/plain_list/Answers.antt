use Rattle.plain_lister.proofs.Growing.{answer_listed, answer_lowest, answer_complete, answer_refused}
use Rattle.plain_lister.proofs.lists.plain_list.Goals as goal

pub returns-clause-listed : goal.returns-clause-listed
returns-clause-listed c = answer_listed c.args.problem.now c.list_by.result c.list_by.ensures

pub returns-clause-lowest : goal.returns-clause-lowest
returns-clause-lowest c = answer_lowest c.args.problem.now c.list_by.result c.list_by.ensures

pub returns-clause-complete : goal.returns-clause-complete
returns-clause-complete c = answer_complete c.args.problem.now c.list_by.result c.list_by.ensures

pub returns-clause-refused : goal.returns-clause-refused
returns-clause-refused c = answer_refused c.args.problem.now c.list_by.result c.list_by.ensures
