use Rattle.mixedcells.proofs.Walking.{file_walk}
use Rattle.mixedcells.proofs.together.walk_by.Goals as goal

pub returns : goal.returns
returns g c = file_walk c.args.file.now c.dim-dim.ensures.valid c.in-Ok.problem c.in-Ok.ensures.path c.search_together.result c.search_together.ensures
