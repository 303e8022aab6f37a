use Rattle.searcher.proofs.turning.answer_turn.Goals as goal

pub carried_turn-requires-clause-carries : goal.carried_turn-requires-clause-carries
carried_turn-requires-clause-carries g c = c.requires.walk.0 c.if-walk.true
