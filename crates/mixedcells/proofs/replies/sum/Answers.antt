use Rattle.std.proofs.Common.{inl}
use Rattle.start_system.proofs.Making.Parts.{if_ok_weaker}
use Rattle.mixedcells.specs.Walks.{IsReachedSum, IsWalkReply}
use Rattle.mixedcells.specs.Answers.{IsFileReply}
use Rattle.mixedcells.proofs.replies.sum.Goals as goal

pub returns-in-Ok : goal.returns-in-Ok
returns-in-Ok c =
    if_ok_weaker c.sum.result (λ r. IsWalkReply IsReachedSum c.in-Ok.file r.outcome r.text.items) (λ r. IsFileReply (IsWalkReply IsReachedSum) c.args.bytes.now r.outcome r.text.items)
    (λ r h. inl (c.in-Ok.file, c.in-Ok.ensures, h)) c.sum.ensures
