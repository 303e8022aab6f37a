use Rattle.std.proofs.Common.{◌≡◌, ◌<◌, ◌≤◌, ◌-◌, ℕ, suc, [], length}
use Rattle.std.specs.Prelude.{slice_index_or}
use Rattle.table_update.specs.Exchanges.{with_row, with_rest}
use Rattle.table_update.specs.States.{HasSteps, state_after}
use Rattle.table_update.proofs.Listed.{nothing}
use Rattle.table_update.proofs.table.exchanged.Given as goal

abbrev pub invariant-loop-to : goal.invariant-loop-to
invariant-loop-to l = record {
  steps : HasSteps l.k (with_row l.fn.place l.fn.row l.fn.table.rows);
  state : state_after l.k (with_row l.fn.place l.fn.row l.fn.table.rows) ≡ with_rest l.at l.now (state_after l.k l.fn.table.rows);
  inside : l.at < length (state_after l.k l.fn.table.rows).rest;
  below : l.k < length l.fn.table.rows;
  long : length l.now ≡ length l.fn.row;
  count : length l.states.items ≡ suc (length l.fn.table.rows);
  before : (j : ℕ) → j < l.k → slice_index_or l.states.items j nothing ≡ state_after j (with_row l.fn.place l.fn.row l.fn.table.rows);
  behind : (j : ℕ) → l.k ≤ j → j ≤ length l.fn.table.rows → slice_index_or l.states.items j nothing ≡ state_after j l.fn.table.rows;
}

abbrev pub decreases-loop-to : goal.decreases-loop-to
decreases-loop-to l = length l.fn.table.rows - l.k
