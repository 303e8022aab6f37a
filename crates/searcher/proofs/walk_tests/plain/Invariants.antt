use Rattle.searcher.proofs.walk_tests.plain.Given as goal

abbrev pub ghosts-expanded : goal.ghosts-expanded
ghosts-expanded a = record { name = a.blank.name; parts = a.blank.parts }
