use Rattle.path_log.specs.LogText.{log_in}
use Rattle.log_check.proofs.FormedLogs.{formed_shapes}
use Rattle.log_check.proofs.tests.read.Goals as goal

pub returns-in-Ok : goal.returns-in-Ok
returns-in-Ok c = formed_shapes c.in-Ok.log (c.read_log_is_formed.ensures c.args.text.now (log_in c.in-Ok.log) c.in-Ok.ensures)
