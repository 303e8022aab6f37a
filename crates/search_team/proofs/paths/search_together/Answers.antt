use Rattle.search_team.proofs.Starts.{started_still, walked, halted}
use Rattle.search_team.proofs.paths.search_together.Goals as goal

pub search_shared-requires-clause-still : goal.search_shared-requires-clause-still
search_shared-requires-clause-still g c = λ κs within. started_still c.args.problem.now c.dim-dim.ensures.valid c.requires.started

pub returns-in-Ok-search_shared : goal.returns-in-Ok-search_shared
returns-in-Ok-search_shared g c =
    walked c.args.problem.now c.dim-dim.ensures.valid c.requires.started c.in-Ok.branches.items c.in-Ok.ensures c.in-Ok-search_shared.found
    c.in-Ok-search_shared.ensures.answer c.in-Ok-search_shared.ensures.share c.in-Ok-search_shared.ensures.size c.in-Ok-search_shared.ensures.fit

pub returns-in-Err : goal.returns-in-Err
returns-in-Err g c = halted c.args.problem.now c.dim-dim.ensures.valid c.requires.started c.in-Ok.branches.items c.in-Ok.ensures c.in-Err.stopped c.in-Err.ensures.answer
