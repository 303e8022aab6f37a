use Rattle.std.proofs.Common.{◌∙◌, ap}
use Rattle.crossbeam_deque.specs.Handles.{worker_port, worker_view}
use Rattle.branch_pool.specs.declared.rule.SeatView.{SeatView}
use Rattle.branch_pool.proofs.Balance.{settles}
use Rattle.branch_pool.proofs.pool.opening.settled.Goals as goal

pub another-spent-requires : goal.another-spent-requires
another-spent-requires g c = settles (worker_port c.args.worker.now) (worker_view c.args.worker.now) _ c.requires.1.1 (ap (λ (h : SeatView g.row.B.Denot). h.parts) c.requires.2)
