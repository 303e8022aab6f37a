use Rattle.lift_move.proofs.SegmentLaws.{end_is}
use Rattle.lift_move.proofs.laws.end_law.Goals as goal

pub returns : goal.returns
returns c = end_is
