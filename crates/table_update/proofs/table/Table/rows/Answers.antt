use Rattle.std.proofs.Common.{◌≡◌, ◌≤◌, ℕ, length, subst, sym}
use Rattle.reduced_rows.specs.Steps.{OfLength}
use Rattle.table_update.proofs.Tables.{table_lengths}
use Rattle.table_update.proofs.table.Table.rows.Goals as goal

pub returns-clause-lengths : goal.returns-clause-lengths
returns-clause-lengths c = rw c.deref.ensures.value (table_lengths _ c.self.invariant)
