use Rattle.listing_text.proofs.Formed.{listing_formed, listing_of_file}
use Rattle.listing_text.proofs.reading.read_listing_is_formed.Goals as goal

pub returns-clause-valid : goal.returns-clause-valid
returns-clause-valid c = λ bytes file cells e. (listing_formed bytes file cells e).0

pub returns-clause-formed : goal.returns-clause-formed
returns-clause-formed c = λ bytes file cells e. (listing_formed bytes file cells e).1

pub returns-clause-of_file : goal.returns-clause-of_file
returns-clause-of_file c = listing_of_file
