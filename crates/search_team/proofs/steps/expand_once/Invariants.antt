use Rattle.search_team.proofs.steps.expand_once.Given as goal

abbrev pub ghosts-expand_by : goal.ghosts-expand_by
ghosts-expand_by a = record { name = a.blank.name; parts = a.blank.parts }
