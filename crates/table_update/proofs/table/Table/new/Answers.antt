use Rattle.reduced_rows.proofs.Answered.{reduced_answer, kernel_answer, overflow_answer, dependent_answer}
use Rattle.reduced_rows.specs.Refusals.{HasKernel}
use Rattle.reduced_rows.specs.Spans.{IsReducedOf}
use Rattle.std.proofs.Common.{length, refl}
use Rattle.table_update.specs.Answers.{reduced_of}
use Rattle.table_update.proofs.Tables.{ok_of, err_of, working_of}
use Rattle.table_update.proofs.table.Table.new.Goals as goal

pub returns-clause-reduced : goal.returns-clause-reduced
returns-clause-reduced c =
    let n = length c.args.rows.items in
    ok_of (IsReducedOf n c.args.rows.items) c.made.result
    (reduced_answer n c.requires.0 c.args.rows.items (reduced_of c.made.result) refl c.requires.2 (working_of n c.args.rows.items c.made.result c.made.ensures))

pub returns-clause-kernel : goal.returns-clause-kernel
returns-clause-kernel c =
    let n = length c.args.rows.items in
    err_of (HasKernel n c.args.rows.items) c.made.result
    (kernel_answer n c.requires.0 c.args.rows.items (reduced_of c.made.result) refl c.requires.2 (working_of n c.args.rows.items c.made.result c.made.ensures))

pub returns-clause-dependent : goal.returns-clause-dependent
returns-clause-dependent c =
    let n = length c.args.rows.items in
    let w = working_of n c.args.rows.items c.made.result c.made.ensures in
    dependent_answer n c.args.rows.items (reduced_of c.made.result) w
    (reduced_answer n c.requires.0 c.args.rows.items (reduced_of c.made.result) refl c.requires.2 w)
    (kernel_answer n c.requires.0 c.args.rows.items (reduced_of c.made.result) refl c.requires.2 w)
