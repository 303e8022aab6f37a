use Rattle.std.proofs.lemmas.Result.{on_ok_weaker}
use Rattle.path_log.proofs.Written.{log_written}
use Rattle.path_log.proofs.writing.append_log.Goals as goal

pub returns : goal.returns
returns c = on_ok_weaker _ (log_written _ _ _ _ c.args.file.now c.args.trace.now.nodes.items c.args.trace.now.found.items c.in_ok-append_problem.ensures (rw c.as_slice.ensures.value at c.in_ok-append_nodes.ensures)) (rw c.as_slice-2.ensures.value at c.append_cells.ensures)
