use Rattle.lift_move.proofs.SegmentLaws.{complete_is}
use Rattle.lift_move.proofs.laws.complete_law.Goals as goal

pub returns : goal.returns
returns c = complete_is
