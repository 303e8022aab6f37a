use Rattle.std.proofs.Common.{inl, map}
use Rattle.support_text.specs.Stored.{heights_view}
use Rattle.start_system.proofs.Making.Parts.{if_ok_weaker}
use Rattle.lift_move.proofs.MoveFormed.{move_formed}
use Rattle.mixedcells.specs.Answers.{IsMoveReply}
use Rattle.mixedcells.specs.Moving.{IsMovedReply}
use Rattle.mixedcells.proofs.moves.moved.Goals as goal

pub judged_move-requires-clause-listed : goal.judged_move-requires-clause-listed
judged_move-requires-clause-listed c = (move_formed c.args.bytes.now _ c.in-Ok.ensures).of_file

pub judged_move-requires-clause-version : goal.judged_move-requires-clause-version
judged_move-requires-clause-version c = (move_formed c.args.bytes.now _ c.in-Ok.ensures).version

pub judged_move-requires-clause-heights : goal.judged_move-requires-clause-heights
judged_move-requires-clause-heights c = rw c.deref.ensures.value ((move_formed c.args.bytes.now _ c.in-Ok.ensures).heights)

pub returns-in-Ok : goal.returns-in-Ok
returns-in-Ok c =
    if_ok_weaker c.judged_move.result (λ r. IsMovedReply c.in-Ok.read.listing (map heights_view c.deref.result.now) r.outcome r.text.items) (λ r. IsMoveReply c.args.bytes.now r.outcome r.text.items)
    (λ r h. inl (c.in-Ok.read.listing, map heights_view c.in-Ok.read.second.items, c.in-Ok.ensures, (rw c.deref.ensures.value at h))) c.judged_move.ensures
