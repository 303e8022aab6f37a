use Rattle.poly_text.proofs.Exactly.{answer_system, answer_fault}
use Rattle.poly_text.proofs.FilePoints.{answer_supports}
use Rattle.poly_text.proofs.system.read_system.Goals as goal

pub returns-clause-system : goal.returns-clause-system
returns-clause-system c = answer_system c.args.bytes.now c.read_lines.result c.read_lines.ensures

pub returns-clause-supports : goal.returns-clause-supports
returns-clause-supports c = answer_supports c.args.bytes.now c.read_lines.result c.read_lines.ensures

pub returns-clause-fault : goal.returns-clause-fault
returns-clause-fault c = answer_fault c.args.bytes.now c.read_lines.result c.read_lines.ensures
