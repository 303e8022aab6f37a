use Rattle.searcher.proofs.walks.Walk.answer_of.Goals as goal

pub carried_on-requires-clause-carries : goal.carried_on-requires-clause-carries
carried_on-requires-clause-carries g c = c.requires.walk.0 c.if-self.true
