use Rattle.plain_lister.proofs.ties.is_tie_free.Given as goal

abbrev pub ghosts-tie_by : goal.ghosts-tie_by
ghosts-tie_by a = record { name = a.blank.name; parts = a.blank.parts }
