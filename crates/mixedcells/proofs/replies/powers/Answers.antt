use Rattle.std.proofs.Common.{inl}
use Rattle.listing_text.proofs.Formed.{listing_of_file}
use Rattle.start_system.proofs.Making.Parts.{if_ok_weaker}
use Rattle.mixedcells.specs.Answers.{IsRowsReply, IsPowersReply}
use Rattle.mixedcells.proofs.replies.powers.Goals as goal

pub judged_rows-requires : goal.judged_rows-requires
judged_rows-requires c = listing_of_file c.args.bytes.now _ _ c.in-Ok.ensures

pub returns-in-Ok : goal.returns-in-Ok
returns-in-Ok c =
    if_ok_weaker c.judged_rows.result (λ r. IsRowsReply c.in-Ok.listing r.outcome r.text.items) (λ r. IsPowersReply c.args.bytes.now r.outcome r.text.items)
    (λ r h. inl (c.in-Ok.listing, c.in-Ok.ensures, h)) c.judged_rows.ensures
