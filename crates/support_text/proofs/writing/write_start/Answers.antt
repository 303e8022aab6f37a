use Rattle.std.proofs.lemmas.Result.{on_ok_weaker}
use Rattle.support_text.proofs.Written.{start_written}
use Rattle.support_text.proofs.writing.write_start.Goals as goal

pub returns : goal.returns
returns c = on_ok_weaker _ (start_written _ _ _ _ c.args.heights.now c.in_ok-write_bytes.ensures.ok c.in_ok-write_heights.ensures) c.write_bytes-2.ensures.ok
