use Rattle.std.proofs.Common.{rules, FitsSigned, to_z-of_z}
use Rattle.std.specs.Int.{w128}
use Rattle.searcher.proofs.BesideOne.{beside}
use Rattle.searcher.proofs.passing.beside_one.Goals as goal

pub returns-clause-order : goal.returns-clause-order
returns-clause-order c = λ t e o.
    let fit : FitsSigned w128 c.den-den.result = search rules in
    beside c.args.time.now c.den-den.ensures.lowest t e o c.compare_parts.result (rw (c.parts.ensures.value, c.den-den.ensures.value) at (simp to_z-of_z at c.compare_parts.ensures))
