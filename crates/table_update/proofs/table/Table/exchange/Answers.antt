use Rattle.std.proofs.Common.{◌≤◌, ◌-◌, ℕ, [], length, refl, subst, sym, ap, arith, ◌∙◌, ◌≡◌}
use Rattle.std.proofs.lemmas.List.{length-set}
use Rattle.reduced_rows.proofs.Answered.{reduced_answer, kernel_answer, overflow_answer, dependent_answer}
use Rattle.reduced_rows.proofs.Picking.{each_at}
use Rattle.reduced_rows.specs.Refusals.{HasKernel}
use Rattle.reduced_rows.specs.Spans.{IsReducedOf}
use Rattle.reduced_rows.specs.Steps.{OfLength}
use Rattle.table_update.specs.Answers.{reduced_of}
use Rattle.table_update.specs.Exchanges.{with_row}
use Rattle.table_update.specs.States.{IsElimination}
use Rattle.table_update.proofs.Tables.{table_parts, ok_of, err_of, working_of}
use Rattle.table_update.proofs.Turn.{long_with}
use Rattle.table_update.proofs.table.Table.exchange.Goals as goal

pub returns-clause-reduced : goal.returns-clause-reduced
returns-clause-reduced c =
    let old = c.args.self.rows in
    let new = with_row c.args.place c.args.row c.args.self.rows in
    let n = length new in
    let parts = table_parts c.args.self (subst IsElimination c.self.view_is c.self.invariant) in
    let row_long : length c.args.row ≡ parts.width = c.requires.length ∙ each_at (λ row. length row ≡ parts.width) old (c.args.place - 1) [] (let a = c.requires.first in let b = c.requires.last in omega (arith, a, b)) parts.long in
    let long = long_with parts.width old (c.args.place - 1) c.args.row parts.long row_long in
    let w = working_of n new c.exchanged.result c.exchanged.ensures in
    ok_of (IsReducedOf n new) c.exchanged.result (reduced_answer n parts.width new (reduced_of c.exchanged.result) refl long w)

pub returns-clause-kernel : goal.returns-clause-kernel
returns-clause-kernel c =
    let old = c.args.self.rows in
    let new = with_row c.args.place c.args.row c.args.self.rows in
    let n = length new in
    let parts = table_parts c.args.self (subst IsElimination c.self.view_is c.self.invariant) in
    let row_long : length c.args.row ≡ parts.width = c.requires.length ∙ each_at (λ row. length row ≡ parts.width) old (c.args.place - 1) [] (let a = c.requires.first in let b = c.requires.last in omega (arith, a, b)) parts.long in
    let long = long_with parts.width old (c.args.place - 1) c.args.row parts.long row_long in
    let w = working_of n new c.exchanged.result c.exchanged.ensures in
    err_of (HasKernel n new) c.exchanged.result (kernel_answer n parts.width new (reduced_of c.exchanged.result) refl long w)

pub returns-clause-dependent : goal.returns-clause-dependent
returns-clause-dependent c =
    let old = c.args.self.rows in
    let new = with_row c.args.place c.args.row c.args.self.rows in
    let n = length new in
    let parts = table_parts c.args.self (subst IsElimination c.self.view_is c.self.invariant) in
    let row_long : length c.args.row ≡ parts.width = c.requires.length ∙ each_at (λ row. length row ≡ parts.width) old (c.args.place - 1) [] (let a = c.requires.first in let b = c.requires.last in omega (arith, a, b)) parts.long in
    let long = long_with parts.width old (c.args.place - 1) c.args.row parts.long row_long in
    let w = working_of n new c.exchanged.result c.exchanged.ensures in
    dependent_answer n new (reduced_of c.exchanged.result) w
    (reduced_answer n parts.width new (reduced_of c.exchanged.result) refl long w)
    (kernel_answer n parts.width new (reduced_of c.exchanged.result) refl long w)
