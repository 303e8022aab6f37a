use Rattle.std.proofs.Common.{◌≡◌, length, subst, Ok}
use Rattle.reduced_rows.specs.Spans.{IsReducedOf}
use Rattle.reduced_rows.specs.Steps.{elimination, FitsElimination}
use Rattle.table_update.specs.States.{IsElimination}
use Rattle.table_update.proofs.Tables.{table_means}
use Rattle.table_update.proofs.table.Table.reduced.Goals as goal

pub returns-clause-fits : goal.returns-clause-fits
returns-clause-fits c = (table_means c.args.self.now (subst IsElimination c.self.view_is c.self.invariant)).0

pub returns-clause-working : goal.returns-clause-working
returns-clause-working c = subst (λ e. elimination (length e.rows) e.rows ≡ Ok c.self.inside.reduced) c.self.view_is (table_means _ c.self.invariant).1

pub returns-clause-reduced : goal.returns-clause-reduced
returns-clause-reduced c = subst (λ e. IsReducedOf (length e.rows) e.rows c.self.inside.reduced) c.self.view_is (table_means _ c.self.invariant).2
