use Rattle.search_team.proofs.steps.search_once.Given as goal

abbrev pub ghosts-search_by : goal.ghosts-search_by
ghosts-search_by a = record { name = a.blank.name; parts = a.blank.parts }
