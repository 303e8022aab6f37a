use Rattle.mixedcells.proofs.Walking.{count_walked}
use Rattle.mixedcells.proofs.walks.count_path.Goals as goal

pub returns : goal.returns
returns c =
    count_walked c.args.problem.now c.dim-dim.ensures.valid.shape.problem c.requires.searched c.in-Ok.branches.items c.in-Ok.ensures c.count_by.result
    c.count_by.ensures.answer c.count_by.ensures.share c.count_by.ensures.size c.count_by.ensures.tie c.count_by.ensures.untied
