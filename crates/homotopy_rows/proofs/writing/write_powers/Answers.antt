use Rattle.std.proofs.lemmas.Result.{on_ok_weaker}
use Rattle.homotopy_rows.proofs.Written.{powers_written}
use Rattle.homotopy_rows.proofs.writing.write_powers.Goals as goal

pub returns : goal.returns
returns c = on_ok_weaker _ (powers_written _ _ _ _ c.args.powers.now c.in_ok-write_bytes.ensures.ok (rw c.as_slice.ensures.value at c.in_ok-write_each.ensures)) c.write_bytes-2.ensures.ok
