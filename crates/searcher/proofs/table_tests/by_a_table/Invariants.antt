use Rattle.searcher.proofs.table_tests.by_a_table.Given as goal

abbrev pub ghosts-expanded_on : goal.ghosts-expanded_on
ghosts-expanded_on a = record { name = a.blank.name; parts = a.blank.parts }
