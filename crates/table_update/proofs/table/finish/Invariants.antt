use Rattle.std.proofs.Common.{◌≡◌, ◌≤◌, suc, length}
use Rattle.table_update.specs.States.{HasSteps, AreStates}
use Rattle.table_update.proofs.table.finish.Given as goal

abbrev pub invariant-loop-k : goal.invariant-loop-k
invariant-loop-k l = record {
  below : l.k ≤ length l.rows.items;
  count : length l.states.items ≡ suc l.k;
  steps : HasSteps l.k l.rows.items;
  states : AreStates l.k l.rows.items l.states.items;
}
