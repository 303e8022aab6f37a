use Rattle.mixedcells.specs.Journeys.{TellsCause}
use Rattle.support_text.specs.Stored.{heights_view}
use Rattle.std.proofs.Common.{map}
use Rattle.start_system.proofs.Making.Parts.{if_ok_weaker}
use Rattle.mixedcells.specs.Moving.{IsMovedReply}
use Rattle.mixedcells.proofs.MoveReplies.{tells_move}
use Rattle.mixedcells.proofs.moves.followed.Goals as goal

pub returns : goal.returns
returns c =
    if_ok_weaker c.halted.result (λ r. TellsCause c.in-Err.cause r.outcome r.text.items) (λ r. IsMovedReply c.args.listing.now (map heights_view c.args.second.now) r.outcome r.text.items)
    (λ r told. tells_move c.args.listing.now (map heights_view c.args.second.now) c.in_ok-file.file c.in-Err.cause r.outcome r.text.items c.in_ok-file.ensures.value c.requires.right c.in-Err.ensures told) c.halted.ensures
