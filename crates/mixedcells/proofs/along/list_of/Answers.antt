use Rattle.start_system.proofs.Making.Parts.{if_ok_weaker}
use Rattle.mixedcells.specs.Walks.{IsReachedListing, IsWalkReply}
use Rattle.mixedcells.specs.Journeys.{TellsCause}
use Rattle.mixedcells.proofs.AlongPaths.{tells_walk}
use Rattle.mixedcells.proofs.along.list_of.Goals as goal

pub returns-in_ok-text-in-Ok : goal.returns-in_ok-text-in-Ok
returns-in_ok-text-in-Ok c = (c.in-Ok.found.cells.items, (rw c.in-Ok.is at c.requires).cells, (rw c.deref.ensures.value at c.in_ok-text-in-Ok.ensures))

pub returns-in-Err : goal.returns-in-Err
returns-in-Err c =
    if_ok_weaker c.halted.result (λ r. TellsCause c.in-Err.cause r.outcome r.text.items) (λ r. IsWalkReply IsReachedListing c.args.file.now r.outcome r.text.items)
    (λ r told. tells_walk IsReachedListing c.args.file.now c.in-Err.cause r.outcome r.text.items (rw c.in-Err.is at c.requires) told) c.halted.ensures
