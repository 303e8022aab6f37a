use Rattle.lift_move.proofs.SegmentLaws.{start_is}
use Rattle.lift_move.proofs.laws.start_law.Goals as goal

pub returns : goal.returns
returns c = start_is
