use Rattle.listing_text.proofs.Formed.{part_formed, part_of_file}
use Rattle.listing_text.proofs.reading.read_cells_are_formed.Goals as goal

pub returns-clause-formed : goal.returns-clause-formed
returns-clause-formed c = λ counts end rows rest part e. part_formed counts end rows (part, rest) e

pub returns-clause-of_file : goal.returns-clause-of_file
returns-clause-of_file c = part_of_file
