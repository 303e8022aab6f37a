use Rattle.start_system.proofs.Making.Parts.{if_ok_weaker}
use Rattle.mixedcells.specs.Journeys.{TellsCause}
use Rattle.mixedcells.specs.Logs.{IsTracedText}
use Rattle.mixedcells.specs.Walks.{IsWalkReply}
use Rattle.mixedcells.proofs.AlongPaths.{tells_walk}
use Rattle.mixedcells.proofs.logs.traced.Goals as goal

pub returns-in_ok-text-in-Ok : goal.returns-in_ok-text-in-Ok
returns-in_ok-text-in-Ok c = (c.in-Ok.trace, c.in-Ok.ensures, c.in_ok-text-in-Ok.ensures)

pub returns-in-Err : goal.returns-in-Err
returns-in-Err c =
    if_ok_weaker c.halted.result (λ r. TellsCause c.in-Err.cause r.outcome r.text.items) (λ r. IsWalkReply IsTracedText c.args.file.now r.outcome r.text.items)
    (λ r told. tells_walk IsTracedText c.args.file.now c.in-Err.cause r.outcome r.text.items c.in-Err.ensures told) c.halted.ensures
