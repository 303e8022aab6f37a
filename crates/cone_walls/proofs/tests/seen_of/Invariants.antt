use Rattle.cone_walls.proofs.tests.seen_of.Given as goal

abbrev pub ghosts-seen : goal.ghosts-seen
ghosts-seen a = record { name = a.blank.name; parts = a.blank.parts }
