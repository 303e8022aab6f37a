use Rattle.path_log.proofs.LogBack.{log_back}
use Rattle.path_log.proofs.reading.written_log_reads_back.Goals as goal

pub returns : goal.returns
returns c = log_back c.args.file.now c.args.trace.now.nodes.items c.args.trace.now.found.items c.dim-dimension.ensures.valid
