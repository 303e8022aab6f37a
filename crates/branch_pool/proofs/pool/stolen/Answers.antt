use Rattle.crossbeam_deque.specs.Handles.{view}
use Rattle.branch_pool.proofs.Balance.{steals}
use Rattle.branch_pool.proofs.pool.stolen.Goals as goal

pub steal_as-requires-clause-takes : goal.steal_as-requires-clause-takes
steal_as-requires-clause-takes g c = steals c.loop.pass.id (view c.loop.pass) (rw c.loop.invariant.4 c.requires.2) (rw c.loop.invariant.4 c.requires.1)
