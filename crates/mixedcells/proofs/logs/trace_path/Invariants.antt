use Rattle.mixedcells.proofs.logs.trace_path.Given as goal

abbrev pub ghosts-trace_by : goal.ghosts-trace_by
ghosts-trace_by a = record { name = a.blank.name; parts = a.blank.parts }
