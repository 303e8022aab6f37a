use Rattle.search_team.proofs.steps.expand_made_once.Given as goal

abbrev pub ghosts-expand_made_by : goal.ghosts-expand_made_by
ghosts-expand_made_by a = record { name = a.blank.name; parts = a.blank.parts }
