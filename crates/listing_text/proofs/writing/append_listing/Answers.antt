use Rattle.std.proofs.lemmas.Result.{on_ok_weaker}
use Rattle.listing_text.proofs.Written.{listing_written}
use Rattle.listing_text.proofs.writing.append_listing.Goals as goal

pub returns : goal.returns
returns c = on_ok_weaker _ (listing_written _ _ _ c.args.file.now c.args.cells.now c.in_ok-append_problem.ensures) c.append_cells.ensures
