use Rattle.std.proofs.lemmas.Result.{on_ok_weaker}
use Rattle.homotopy_rows.specs.Stored.{row}
use Rattle.homotopy_rows.proofs.Written.{rows_written}
use Rattle.homotopy_rows.proofs.writing.append_rows.Goals as goal

pub returns : goal.returns
returns c = on_ok_weaker _ (rows_written row _ _ _ _ c.args.rows.now c.in_ok-write_count.ensures c.in_ok-write_cells.ensures) c.write_bytes.ensures.ok
