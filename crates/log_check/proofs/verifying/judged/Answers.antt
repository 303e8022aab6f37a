use Rattle.log_check.proofs.OneRefusal.{verdict_of}
use Rattle.log_check.proofs.verifying.judged.Goals as goal

pub returns-in-Err : goal.returns-in-Err
returns-in-Err c = verdict_of c.args.log.now c.in-Err.halt c.answer_of.result c.answer_of.ensures c.in-Err.ensures
