use Rattle.mixedcells.proofs.Walking.{file_walk}
use Rattle.mixedcells.proofs.walks.walk.Goals as goal

pub returns : goal.returns
returns c = file_walk c.args.file.now c.dim-dim.ensures.valid c.in-Ok.problem c.in-Ok.ensures.path c.search_path.result c.search_path.ensures
