use Rattle.listing_text.proofs.ListingBack.{listing_back}
use Rattle.listing_text.proofs.reading.written_listing_reads_back.Goals as goal

pub returns : goal.returns
returns c = λ formed few. listing_back c.args.file.now c.args.cells.now c.dim-dimension.ensures.valid formed few
