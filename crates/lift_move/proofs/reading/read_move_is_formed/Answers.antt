use Rattle.lift_move.proofs.MoveFormed.{move_formed}
use Rattle.lift_move.proofs.reading.read_move_is_formed.Goals as goal

pub returns-clause-valid : goal.returns-clause-valid
returns-clause-valid c = λ bytes listed second e. (move_formed bytes (listed, second) e).valid

pub returns-clause-version : goal.returns-clause-version
returns-clause-version c = λ bytes listed second e. (move_formed bytes (listed, second) e).version

pub returns-clause-of_file : goal.returns-clause-of_file
returns-clause-of_file c = λ bytes listed second e. (move_formed bytes (listed, second) e).of_file

pub returns-clause-heights : goal.returns-clause-heights
returns-clause-heights c = λ bytes listed second e. (move_formed bytes (listed, second) e).heights
