use Rattle.std.proofs.Common.{inl}
use Rattle.start_system.proofs.Making.Parts.{if_ok_weaker}
use Rattle.mixedcells.specs.Walks.{IsTieReply}
use Rattle.mixedcells.specs.Answers.{IsGenericReply}
use Rattle.mixedcells.proofs.replies.generic.Goals as goal

pub returns-in-Ok : goal.returns-in-Ok
returns-in-Ok c =
    if_ok_weaker c.generic.result (λ r. IsTieReply c.in-Ok.file r.outcome r.text.items) (λ r. IsGenericReply c.args.bytes.now r.outcome r.text.items)
    (λ r h. inl (c.in-Ok.file, c.in-Ok.ensures, h)) c.generic.ensures
