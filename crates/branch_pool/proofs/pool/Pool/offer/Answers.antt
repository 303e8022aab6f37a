use Rattle.std.proofs.Common.{arith}
use Rattle.crossbeam_deque.specs.Handles.{worker_port, worker_view}
use Rattle.branch_pool.proofs.Balance.{offers}
use Rattle.branch_pool.proofs.pool.Pool.offer.Goals as goal

pub push_as-requires-clause-pushes : goal.push_as-requires-clause-pushes
push_as-requires-clause-pushes g c = offers (worker_port c.seat.inside.own) (worker_view c.seat.inside.own) c.args.branch c.seat.invariant.3.1 (omega (arith, c.seat.invariant.4, c.seat.invariant.2))
