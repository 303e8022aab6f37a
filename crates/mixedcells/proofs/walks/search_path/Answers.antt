use Rattle.mixedcells.proofs.Walking.{walked, halted}
use Rattle.mixedcells.proofs.walks.search_path.Goals as goal

pub returns-in-Ok-search_by : goal.returns-in-Ok-search_by
returns-in-Ok-search_by c =
    walked c.args.problem.now c.dim-dim.ensures.valid.shape.problem c.requires.searched c.in-Ok.branches.items c.in-Ok.ensures c.in-Ok-search_by.found
    c.in-Ok-search_by.ensures.answer c.in-Ok-search_by.ensures.share c.in-Ok-search_by.ensures.size c.in-Ok-search_by.ensures.fit

pub returns-in-Err : goal.returns-in-Err
returns-in-Err c =
    halted c.args.problem.now c.dim-dim.ensures.valid.shape.problem c.requires.searched c.in-Ok.branches.items c.in-Ok.ensures c.in-Err.stopped
    c.in-Err.ensures.answer c.in-Err.ensures.tie c.in-Err.ensures.untied
