use Rattle.plain_lister.proofs.ties.take_turn.Given as goal

abbrev pub ghost-advance : goal.ghost-advance
ghost-advance g a = g.counts
