use Rattle.std.proofs.Common.{sym, subst}
use Rattle.int_vectors.proofs.Each.{all_each}
use Rattle.searcher.specs.LineCircuits.{NamesFurther}
use Rattle.searcher.proofs.circuits.circuits_fit.Goals as goal

pub coefficients_fit_at-requires-clause-point : goal.coefficients_fit_at-requires-clause-point
coefficients_fit_at-requires-clause-point c =
    subst (NamesFurther c.args.problem.now c.args.cell.now) (sym c.line-item.is)
    (all_each (NamesFurther c.args.problem.now c.args.cell.now) c.args.lines.now c.requires.further c.loop-line.line-index _ c.loop-line-test.true)
