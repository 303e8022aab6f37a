use Rattle.std.proofs.Common.{inl}
use Rattle.start_system.proofs.Making.Parts.{if_ok_weaker}
use Rattle.mixedcells.specs.Logs.{IsTracedText}
use Rattle.mixedcells.specs.Walks.{IsWalkReply}
use Rattle.mixedcells.specs.Answers.{IsFileReply}
use Rattle.mixedcells.proofs.logs.trace.Goals as goal

pub returns-in-Ok : goal.returns-in-Ok
returns-in-Ok c =
    if_ok_weaker c.traced.result (λ r. IsWalkReply IsTracedText c.in-Ok.file r.outcome r.text.items) (λ r. IsFileReply (IsWalkReply IsTracedText) c.args.bytes.now r.outcome r.text.items)
    (λ r h. inl (c.in-Ok.file, c.in-Ok.ensures, h)) c.traced.ensures
