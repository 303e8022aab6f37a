use Rattle.searcher.proofs.begins.begins_as.Goals as goal

pub returns-in-At-entry-clause-said : goal.returns-in-At-entry-clause-said
returns-in-At-entry-clause-said c = rw (c.in-At.is, c.in-At-entry.is) c.is_same.ensures

pub returns-in-Tied-clause-said : goal.returns-in-Tied-clause-said
returns-in-Tied-clause-said c = rw (c.in-At.is, c.in-Tied.is) c.is_same-in-Tied.ensures
