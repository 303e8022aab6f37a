use Rattle.std.proofs.Common.{inl}
use Rattle.start_system.proofs.Making.Parts.{if_ok_weaker}
use Rattle.mixedcells.specs.Walks.{IsReachedListing, IsWalkReply}
use Rattle.mixedcells.specs.Answers.{IsFileReply}
use Rattle.mixedcells.proofs.replies.list.Goals as goal

pub returns-in-Ok : goal.returns-in-Ok
returns-in-Ok c =
    if_ok_weaker c.list.result (λ r. IsWalkReply IsReachedListing c.in-Ok.file r.outcome r.text.items) (λ r. IsFileReply (IsWalkReply IsReachedListing) c.args.bytes.now r.outcome r.text.items)
    (λ r h. inl (c.in-Ok.file, c.in-Ok.ensures, h)) c.list.ensures
