use Rattle.cone_walls.proofs.FrontEnds.{time_is}
use Rattle.cone_walls.proofs.endings.time_of.Goals as goal

pub returns : goal.returns
returns c = time_is c.args.fall.now c.requires c.of.result c.zero_of.result c.of.ensures.lowest c.of.ensures.value c.zero_of.ensures.value
