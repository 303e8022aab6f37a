use Rattle.mixedcells.proofs.Walking.{file_trace}
use Rattle.mixedcells.proofs.logs.trace_path.Goals as goal

pub returns : goal.returns
returns c = file_trace c.args.file.now c.dim-dim.ensures.valid c.in-Ok.problem c.in-Ok.ensures.path c.trace_by.result c.trace_by.ensures
