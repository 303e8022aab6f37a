use Rattle.std.proofs.Common.{◌≡◌, ◌-◌, ◌+◌, [], length, map, arith, ap, ◌∙◌, sym, subst, List, Vec, Global}
use Rattle.std.specs.List.{All}
use Rattle.std.proofs.lemmas.List.{length-map}
use Rattle.crossbeam_deque.specs.Handles.{Pass, worker_deque, worker_view, stealer_deque}
use Rattle.crossbeam_deque.specs.declared.handles.Worker.{Worker}
use Rattle.crossbeam_deque.specs.declared.handles.Stealer.{Stealer}
use Rattle.branch_pool.specs.declared.rule.SeatView.{SeatView}
use Rattle.branch_pool.specs.declared.rule.PoolRule.{PoolRule}
use Rattle.branch_pool.specs.Rule.{view_of}
use Rattle.branch_pool.specs.Parts.{IsRow, worker_views, pass_views}
use Rattle.branch_pool.specs.Seats.{SeatData, AreAllSeats, all_taken}
use Rattle.branch_pool.proofs.Dealt.{view_at}
use Rattle.branch_pool.proofs.Fresh.{numbered_more, next_row, keeps_last}
use Rattle.branch_pool.proofs.pool.opening.opened.Goals as goal

pub loop-number-preserved : goal.loop-number-preserved
loop-number-preserved g c =
    let ws = c.loop-number.workers.items in
    let ws' = c.dealt_row.new.workers.items in
    let i = c.loop-number.invariant in
    let e = c.in_ok-dealt_row.ensures.workers in
    let p = c.in_ok-dealt_row.ensures.passes in
    let number = c.loop-number.number in
    let n = c.args.seats in
    let ds = map (λ (s : Stealer g.row.B.Denot Global (SeatView g.row.B.Denot) PoolRule). stealer_deque s) c.in_ok-workers.stealers.items in
    let len : length ds ≡ length ws = ap length i.0 ∙ length-map ws (λ (w : Worker g.row.B.Denot Global (SeatView g.row.B.Denot) PoolRule). worker_deque w) in
    let turn : (number - 1) + 1 ≡ number + 1 - 1 = omega (arith, i.5) in (
      i.0 ∙ sym e.0,
      e.1 ∙ ap (λ k. worker_views {B = g.row.B.Denot} k (number - 1) k k) i.2 ∙ next_row n (number - 1) n (omega (arith, i.5, c.loop-number-test.true)) c.requires.1 ∙ ap (λ k. worker_views {B = g.row.B.Denot} n k 0 n) turn,
      sym (length-map ws' (λ (w : Worker g.row.B.Denot Global (SeatView g.row.B.Denot) PoolRule). worker_deque w)) ∙ ap length e.0 ∙ length-map ws (λ (w : Worker g.row.B.Denot Global (SeatView g.row.B.Denot) PoolRule). worker_deque w) ∙ i.2,
      e.2,
      numbered_more (λ k (r : Vec (Pass g.row.B.Denot (SeatView g.row.B.Denot) Global) Global). IsRow ds k r.items) 1 number c.loop-number.rows.items c.push_reserved.new.self.items c.in_ok-dealt_row.field-0 c.push_reserved.ensures.items i.4
          (omega (arith, i.5, c.loop-number.rows.ok.0)) record { own = p.0 ∙ sym i.0; views = p.1 ∙ ap (λ k. pass_views {B = g.row.B.Denot} k number k) (sym len); quiet = p.2 },
      omega (arith, c.push_reserved.ensures.len, i.5),
      omega (arith, c.push_reserved.ensures.capacity, i.6),
    )

pub seated-list-requires-clause-workers : goal.seated-list-requires-clause-workers
seated-list-requires-clause-workers g c =
    let ws = c.loop-number.workers.items in
    let i = c.loop-number.invariant in
    let last : c.loop-number.number - 1 ≡ length ws = omega (arith, i.2, i.5, c.loop-number-test.false, c.loop-number.auto.number-end, c.loop-number.auto.number) in
    λ k d lt. (
      i.3 k d lt,
      view_at (λ (w : Worker g.row.B.Denot Global (SeatView g.row.B.Denot) PoolRule). worker_view w) ws c.args.seats (c.loop-number.number - 1) 0 c.args.seats k d i.1 i.2 (omega (arith, lt, i.2))
          ∙ ap (λ x. view_of {B = g.row.B.Denot} c.args.seats x [] []) (keeps_last (c.loop-number.number - 1) (length ws) k last lt (omega (arith, i.2, c.requires.1)))
          ∙ ap (λ m. view_of {B = g.row.B.Denot} m (65 - length ws) [] []) (sym i.2),
    )

pub seated-list-requires-clause-rows : goal.seated-list-requires-clause-rows
seated-list-requires-clause-rows g c = rw (sym c.loop-number.invariant.0) c.loop-number.invariant.4
