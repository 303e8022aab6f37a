use Rattle.std.proofs.Common.{inl}
use Rattle.listing_text.proofs.Formed.{listing_of_file}
use Rattle.start_system.proofs.Making.Parts.{if_ok_weaker}
use Rattle.mixedcells.specs.Answers.{IsVerdictReply, IsCheckReply}
use Rattle.mixedcells.proofs.replies.check.Goals as goal

pub verdict-requires : goal.verdict-requires
verdict-requires c = listing_of_file c.args.bytes.now _ _ c.in-Ok.ensures

pub returns-in-Ok : goal.returns-in-Ok
returns-in-Ok c =
    if_ok_weaker c.verdict.result (λ r. IsVerdictReply c.in-Ok.listing r.outcome r.text.items) (λ r. IsCheckReply c.args.bytes.now r.outcome r.text.items)
    (λ r h. inl (c.in-Ok.listing, c.in-Ok.ensures, h)) c.verdict.ensures
