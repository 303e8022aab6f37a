use Rattle.std.proofs.Common.{inl}
use Rattle.start_system.proofs.Making.Parts.{if_ok_weaker}
use Rattle.path_log.specs.LogText.{log_in}
use Rattle.path_log.proofs.LogForms.{log_formed}
use Rattle.log_check.proofs.FormedLogs.{formed_shapes}
use Rattle.mixedcells.specs.Logs.{IsJudgedLog}
use Rattle.mixedcells.specs.Answers.{IsLogReply}
use Rattle.mixedcells.proofs.logs.verify.Goals as goal

pub judged-requires : goal.judged-requires
judged-requires c = formed_shapes c.in-Ok.log (log_formed c.args.bytes.now (log_in c.in-Ok.log) c.in-Ok.ensures)

pub returns-in-Ok : goal.returns-in-Ok
returns-in-Ok c =
    if_ok_weaker c.judged.result (λ r. IsJudgedLog c.in-Ok.log r.outcome r.text.items) (λ r. IsLogReply c.args.bytes.now r.outcome r.text.items)
    (λ r h. inl (c.in-Ok.log, c.in-Ok.ensures, h)) c.judged.ensures
