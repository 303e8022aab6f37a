use Rattle.start_system.proofs.Making.Parts.{if_ok_weaker}
use Rattle.log_check.specs.Verdicts.{IsRightLog, IsWrongLog, IsTooLargeLog}
use Rattle.mixedcells.specs.Judging.{TellsAnswer}
use Rattle.mixedcells.specs.Logs.{IsJudgedLog}
use Rattle.mixedcells.proofs.Judging.{told_answer}
use Rattle.mixedcells.proofs.logs.judged.Goals as goal

pub returns : goal.returns
returns c =
    let log = c.args.log.now in
    if_ok_weaker c.answered.result (λ r. TellsAnswer c.verify.result r.outcome r.text.items) (λ r. IsJudgedLog log r.outcome r.text.items)
    (λ r told. told_answer (IsRightLog log) (IsWrongLog log) (IsTooLargeLog log) c.verify.result c.verify.ensures.yes c.verify.ensures.no c.verify.ensures.overflow r.outcome r.text.items told) c.answered.ensures
