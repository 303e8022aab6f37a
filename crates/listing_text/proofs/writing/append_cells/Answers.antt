use Rattle.std.proofs.lemmas.Result.{on_ok_weaker}
use Rattle.listing_text.proofs.Written.{cells_written}
use Rattle.listing_text.proofs.writing.append_cells.Goals as goal

pub returns : goal.returns
returns c = on_ok_weaker _ (cells_written _ _ _ _ c.args.cells.now c.in_ok-write_count.ensures c.in_ok-write_cells.ensures) c.write_bytes.ensures.ok
