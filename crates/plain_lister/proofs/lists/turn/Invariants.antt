use Rattle.plain_lister.proofs.lists.turn.Given as goal

abbrev pub ghost-advance : goal.ghost-advance
ghost-advance g a = g.counts
