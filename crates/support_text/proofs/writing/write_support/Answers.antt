use Rattle.std.proofs.lemmas.Result.{on_ok_weaker}
use Rattle.cayley.specs.Stored.{file_point}
use Rattle.support_text.proofs.Written.{support_written}
use Rattle.support_text.proofs.writing.write_support.Goals as goal

pub returns : goal.returns
returns c = on_ok_weaker _ (support_written file_point _ _ _ c.args.points.now c.in_ok-write_count.ensures) c.write_points.ensures
