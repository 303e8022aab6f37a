use Rattle.cone_walls.proofs.kept_tests.agree_in_turn.Given as goal

abbrev pub ghosts-agrees : goal.ghosts-agrees
ghosts-agrees a = record { name = a.blank.name; parts = a.blank.parts }
