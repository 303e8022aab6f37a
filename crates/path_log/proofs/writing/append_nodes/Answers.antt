use Rattle.std.proofs.lemmas.Result.{on_ok_weaker}
use Rattle.path_log.proofs.Written.{nodes_written}
use Rattle.path_log.proofs.writing.append_nodes.Goals as goal

pub returns : goal.returns
returns c = on_ok_weaker _ (nodes_written _ _ _ c.args.nodes.now c.in_ok-write_count.ensures) c.write_nodes.ensures
