use Rattle.mixedcells.proofs.Walking.{file_count}
use Rattle.mixedcells.proofs.walks.walk_counting.Goals as goal

pub returns : goal.returns
returns c = file_count c.args.file.now c.dim-dim.ensures.valid c.in-Ok.problem c.in-Ok.ensures.path c.count_path.result c.count_path.ensures
