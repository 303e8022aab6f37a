use Rattle.path_log.proofs.LogForms.{log_formed}
use Rattle.path_log.proofs.reading.read_log_is_formed.Goals as goal

pub returns : goal.returns
returns c = log_formed
