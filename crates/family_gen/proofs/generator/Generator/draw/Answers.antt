use Rattle.family_gen.proofs.DrawnNumbers.{wrapped_twice}
use Rattle.family_gen.proofs.generator.Generator.draw.Goals as goal

pub returns-clause-drawn : goal.returns-clause-drawn
returns-clause-drawn c = wrapped_twice c.args.self.now.last

pub returns-clause-last : goal.returns-clause-last
returns-clause-last c = wrapped_twice c.args.self.now.last
