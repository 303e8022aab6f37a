use Rattle.listing_text.proofs.Formed.{lines_formed, lines_of_file}
use Rattle.listing_text.proofs.reading.read_listing_lines_is_formed.Goals as goal

pub returns-clause-valid : goal.returns-clause-valid
returns-clause-valid c = λ end rows rest listed e. (lines_formed end rows rest listed e).0

pub returns-clause-formed : goal.returns-clause-formed
returns-clause-formed c = λ end rows rest listed e. (lines_formed end rows rest listed e).1

pub returns-clause-of_file : goal.returns-clause-of_file
returns-clause-of_file c = lines_of_file
