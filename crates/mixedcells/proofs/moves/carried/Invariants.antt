use Rattle.mixedcells.proofs.moves.carried.Given as goal

abbrev pub ghosts-move_by : goal.ghosts-move_by
ghosts-move_by a = record { name = a.blank.name; parts = a.blank.parts }
