use Rattle.cone_walls.proofs.tests.ended_at.Given as goal

abbrev pub ghosts-ended : goal.ghosts-ended
ghosts-ended a = record { name = a.blank.name; parts = a.blank.parts }
