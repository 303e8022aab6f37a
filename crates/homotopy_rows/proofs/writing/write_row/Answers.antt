use Rattle.std.proofs.lemmas.Result.{on_ok_weaker}
use Rattle.homotopy_rows.specs.Stored.{row}
use Rattle.homotopy_rows.proofs.Written.{row_written}
use Rattle.homotopy_rows.proofs.writing.write_row.Goals as goal

pub returns : goal.returns
returns c = on_ok_weaker _ (row_written _ _ _ (row c.args.r.now) c.in_ok-write_scale.ensures) (rw c.deref.ensures.value at c.write_supports.ensures)
