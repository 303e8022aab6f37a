use Rattle.std.proofs.Common.{arith, ◌≡◌, ◌-◌, ◌+◌, ap}
use Rattle.crossbeam_deque.specs.Handles.{worker_port, worker_view}
use Rattle.branch_pool.specs.declared.rule.SeatView.{SeatView}
use Rattle.branch_pool.specs.Parts.{keeps}
use Rattle.branch_pool.proofs.Balance.{deals, guests}
use Rattle.branch_pool.proofs.Dealt.{keeps_more}
use Rattle.branch_pool.proofs.pool.opening.dealt.Goals as goal

pub pass-requires : goal.pass-requires
pass-requires g c = guests

pub another-requires : goal.another-requires
another-requires g c =
    let e : (worker_view c.args.worker.now).parts ≡ keeps (c.args.number - 1) c.args.at (c.args.at + 1) = ap (λ (h : SeatView g.row.B.Denot). h.parts) c.requires.view in
    let more = keeps_more (c.args.number - 1) c.args.at (λ x. c.if-at-number.false (omega (arith, x, c.requires.place.0))) c.requires.place.2 (omega (arith, c.requires.place.0, c.requires.place.1)) in
    deals (worker_port c.args.worker.now) (worker_view c.args.worker.now) (omega (arith, e, more))
