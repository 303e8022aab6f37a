use Rattle.std.proofs.Common.{arith, ◌≡◌, ◌+◌, ap, ◌∙◌, Global}
use Rattle.crossbeam_deque.specs.Handles.{worker_deque, worker_view, stealer_deque, stealer_flavor}
use Rattle.crossbeam_deque.specs.declared.handles.Worker.{Worker}
use Rattle.crossbeam_deque.specs.declared.handles.Stealer.{Stealer}
use Rattle.branch_pool.specs.declared.rule.SeatView.{SeatView}
use Rattle.branch_pool.specs.declared.rule.PoolRule.{PoolRule}
use Rattle.branch_pool.proofs.Dealt.{both_more, views_more, all_more}
use Rattle.branch_pool.specs.Parts.{IsOwner}
use Rattle.branch_pool.proofs.pool.opening.made.Goals as goal

pub loop-turn-preserved : goal.loop-turn-preserved
loop-turn-preserved g c =
    let ws = c.loop-turn.workers.items in
    let ss = c.loop-turn.stealers.items in
    let w = c.settled.new.worker in
    let same = c.settled.ensures.same in
    let s = c.in_ok-stealer.field-0 in
    let we = c.push_reserved-in-loop-turn.ensures.items in
    let se = c.push_reserved.ensures.items in
    let made = c.in_ok-worker.ensures in
    let told = c.in_ok-stealer.ensures in (
      both_more (λ (s : Stealer g.row.B.Denot Global (SeatView g.row.B.Denot) PoolRule). stealer_deque s) (λ (w : Worker g.row.B.Denot Global (SeatView g.row.B.Denot) PoolRule). worker_deque w) ss c.push_reserved.new.self.items ws c.push_reserved-in-loop-turn.new.self.items s w se we c.loop-turn.invariant.0 told.0,
      views_more (λ (w : Worker g.row.B.Denot Global (SeatView g.row.B.Denot) PoolRule). worker_view w) ws c.push_reserved-in-loop-turn.new.self.items c.args.count c.loop-turn._turn w we c.loop-turn.invariant.1 c.settled.ensures.view,
      all_more (λ (w : Worker g.row.B.Denot Global (SeatView g.row.B.Denot) PoolRule). IsOwner w) ws c.push_reserved-in-loop-turn.new.self.items w we c.loop-turn.invariant.2 (same.1 ∙ made.1, same.2 ∙ made.2),
      all_more (λ (s : Stealer g.row.B.Denot Global (SeatView g.row.B.Denot) PoolRule). stealer_flavor s ≡ 1) ss c.push_reserved.new.self.items s se c.loop-turn.invariant.3 (told.1 ∙ same.1 ∙ made.1),
      c.push_reserved-in-loop-turn.ensures.len ∙ ap (λ x. x + 1) c.loop-turn.invariant.4,
      c.push_reserved.ensures.len ∙ ap (λ x. x + 1) c.loop-turn.invariant.5,
      omega (arith, c.push_reserved-in-loop-turn.ensures.capacity, c.loop-turn.invariant.6),
      omega (arith, c.push_reserved.ensures.capacity, c.loop-turn.invariant.7),
    )
