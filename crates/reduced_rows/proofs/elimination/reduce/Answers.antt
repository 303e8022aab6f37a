use Rattle.reduced_rows.proofs.Answered.{reduced_answer, kernel_answer, overflow_answer, dependent_answer}
use Rattle.reduced_rows.proofs.elimination.reduce.Goals as goal

pub returns-clause-reduced : goal.returns-clause-reduced
returns-clause-reduced c =
    let l = c.requires.lengths in
    reduced_answer c.args.columns l.0 c.args.rows.items c.eliminate_rows.result c.requires.count l.2 c.eliminate_rows.ensures

pub returns-clause-kernel : goal.returns-clause-kernel
returns-clause-kernel c =
    let l = c.requires.lengths in
    kernel_answer c.args.columns l.0 c.args.rows.items c.eliminate_rows.result c.requires.count l.2 c.eliminate_rows.ensures

pub returns-clause-overflow : goal.returns-clause-overflow
returns-clause-overflow c = overflow_answer c.args.columns c.args.rows.items c.eliminate_rows.result c.eliminate_rows.ensures

pub returns-clause-dependent : goal.returns-clause-dependent
returns-clause-dependent c =
    dependent_answer c.args.columns c.args.rows.items c.eliminate_rows.result c.eliminate_rows.ensures (returns-clause-reduced c) (returns-clause-kernel c)
