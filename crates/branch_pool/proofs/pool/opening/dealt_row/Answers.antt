use Rattle.std.proofs.Common.{arith, ◌≡◌, ◌<◌, ◌-◌, ◌+◌, [], cond, ◌==◌, length, ap, ◌∙◌, sym, None, Global}
use Rattle.std.proofs.lemmas.List.{length-set, length-map}
use Rattle.std.proofs.lemmas.List.Elements.{All-set, All-get_or}
use Rattle.std.proofs.Math.Seq.{map-set_same}
use Rattle.crossbeam_deque.specs.Handles.{Pass, view, worker_deque, worker_view, worker_flavor, worker_port, stealer_deque}
use Rattle.crossbeam_deque.specs.declared.handles.Stealer.{Stealer}
use Rattle.crossbeam_deque.specs.declared.handles.Worker.{Worker}
use Rattle.branch_pool.specs.declared.rule.SeatView.{SeatView}
use Rattle.branch_pool.specs.declared.rule.PoolRule.{PoolRule}
use Rattle.branch_pool.proofs.Stolen.{same_place}
use Rattle.branch_pool.proofs.Dealt.{view_at, views_step, passes_step, deques_step, all_more}
use Rattle.branch_pool.specs.Rule.{view_of}
use Rattle.branch_pool.specs.Parts.{IsOwner, keeps}
use Rattle.branch_pool.proofs.pool.opening.dealt_row.Goals as goal

pub loop-at-preserved : goal.loop-at-preserved
loop-at-preserved g c =
    let ws = c.loop-at.workers.items in
    let n : length ws ≡ c.len-count.result = c.loop-at.invariant.0 in
    let lt : c.loop-at.at < length ws = omega (arith, n, c.loop-at-test.true) in
    let v = c.index_mut.ensures.value in
    let same = c.dealt.ensures.same.0 ∙ ap (λ (w : Worker g.row.B.Denot Global (SeatView g.row.B.Denot) PoolRule). worker_deque w) v in
    let flavor = c.dealt.ensures.same.1 ∙ ap (λ (w : Worker g.row.B.Denot Global (SeatView g.row.B.Denot) PoolRule). worker_flavor w) v in
    let port = c.dealt.ensures.same.2 ∙ ap (λ (w : Worker g.row.B.Denot Global (SeatView g.row.B.Denot) PoolRule). worker_port w) v in
    let seats : (worker_view c.index_mut.result.now).seats ≡ c.len-count.result =
    ap (λ (h : SeatView g.row.B.Denot). h.seats) (ap (λ (w : Worker g.row.B.Denot Global (SeatView g.row.B.Denot) PoolRule). worker_view w) v ∙ view_at (λ (w : Worker g.row.B.Denot Global (SeatView g.row.B.Denot) PoolRule). worker_view w) ws c.len-count.result (c.args.number - 1) c.loop-at.at c.len-count.result c.loop-at.at c.index_mut.result.now c.loop-at.invariant.2 n c.loop-at-test.true) in
    let was-owner = All-get_or (λ (w : Worker g.row.B.Denot Global (SeatView g.row.B.Denot) PoolRule). IsOwner w) ws c.loop-at.at c.index_mut.result.now lt c.loop-at.invariant.3 in
    let items = c.push_reserved.ensures.items in
    let pass = c.dealt.ensures.pass.0 in
    let was = c.loop-at.invariant.1 in
    let old = c.args.workers.now.items in
    let ol : length ws ≡ length old = sym (length-map ws (λ (w : Worker g.row.B.Denot Global (SeatView g.row.B.Denot) PoolRule). worker_deque w)) ∙ ap length was ∙ length-map old (λ (w : Worker g.row.B.Denot Global (SeatView g.row.B.Denot) PoolRule). worker_deque w) in
    let here = ap (λ (w : Worker g.row.B.Denot Global (SeatView g.row.B.Denot) PoolRule). worker_deque w) v ∙ same_place (λ (w : Worker g.row.B.Denot Global (SeatView g.row.B.Denot) PoolRule). worker_deque w) (λ (w : Worker g.row.B.Denot Global (SeatView g.row.B.Denot) PoolRule). worker_deque w) ws old c.loop-at.at c.index_mut.result.now c.index_mut.result.now was lt in (
      length-set ws c.loop-at.at c.dealt.new.worker ∙ n,
      map-set_same (λ (w : Worker g.row.B.Denot Global (SeatView g.row.B.Denot) PoolRule). worker_deque w) ws c.loop-at.at c.dealt.new.worker c.index_mut.result.now same ∙ was,
      views_step (λ (w : Worker g.row.B.Denot Global (SeatView g.row.B.Denot) PoolRule). worker_view w) ws c.len-count.result (c.args.number - 1) c.loop-at.at c.len-count.result c.dealt.new.worker c.loop-at.invariant.2 c.loop-at-test.true
          (c.dealt.ensures.left ∙ ap (λ m. view_of {B = g.row.B.Denot} m (keeps (c.args.number - 1) (c.loop-at.at + 1) (c.loop-at.at + 1)) [] []) seats),
      All-set (λ (w : Worker g.row.B.Denot Global (SeatView g.row.B.Denot) PoolRule). IsOwner w) ws c.loop-at.at c.dealt.new.worker
          (flavor ∙ was-owner.0, port ∙ was-owner.1) c.loop-at.invariant.3,
      deques_step (λ (p : Pass g.row.B.Denot (SeatView g.row.B.Denot) Global). (p.rows, p.heap)) (λ (w : Worker g.row.B.Denot Global (SeatView g.row.B.Denot) PoolRule). worker_deque w) c.loop-at.passes.items c.push_reserved.new.self.items old c.loop-at.at c.dealt.result c.index_mut.result.now
          items c.loop-at.invariant.4 (omega (arith, lt, ol)) (rw (pass.0, pass.1) here),
      passes_step (λ (p : Pass g.row.B.Denot (SeatView g.row.B.Denot) Global). view p) c.loop-at.passes.items c.push_reserved.new.self.items c.len-count.result c.args.number c.loop-at.at c.dealt.result items c.loop-at.invariant.5
          (c.dealt.ensures.pass.1 ∙ ap (λ m. view_of {B = g.row.B.Denot} (cond (c.loop-at.at + 1 == c.args.number) 0 m) (cond (c.loop-at.at + 1 == c.args.number) 0 1) [] []) seats),
      all_more (λ (p : Pass g.row.B.Denot (SeatView g.row.B.Denot) Global). (p.me.hand ≡ None) × (p.me.spare ≡ None)) c.loop-at.passes.items c.push_reserved.new.self.items c.dealt.result items c.loop-at.invariant.6 (pass.2, pass.3),
      c.push_reserved.ensures.len ∙ ap (λ x. x + 1) c.loop-at.invariant.7,
      omega (arith, c.push_reserved.ensures.capacity, c.loop-at.invariant.8),
    )

pub dealt-requires-clause-deque : goal.dealt-requires-clause-deque
dealt-requires-clause-deque g c =
    let ws = c.loop-at.workers.items in
    let ss = c.args.stealers.now.items in
    let e = c.requires.deques ∙ sym c.loop-at.invariant.1 in
    let sl : length ss ≡ length ws = sym (length-map ss (λ (s : Stealer g.row.B.Denot Global (SeatView g.row.B.Denot) PoolRule). stealer_deque s)) ∙ ap length e ∙ length-map ws (λ (w : Worker g.row.B.Denot Global (SeatView g.row.B.Denot) PoolRule). worker_deque w) in
    let lt : c.loop-at.at < length ss = omega (arith, sl, c.loop-at.invariant.0, c.loop-at-test.true) in
    ap (λ (s : Stealer g.row.B.Denot Global (SeatView g.row.B.Denot) PoolRule). stealer_deque s) c.index.ensures
    ∙ same_place (λ (s : Stealer g.row.B.Denot Global (SeatView g.row.B.Denot) PoolRule). stealer_deque s) (λ (w : Worker g.row.B.Denot Global (SeatView g.row.B.Denot) PoolRule). worker_deque w) ss ws c.loop-at.at c.index.result.now c.index_mut.result.now e lt
    ∙ sym (ap (λ (w : Worker g.row.B.Denot Global (SeatView g.row.B.Denot) PoolRule). worker_deque w) c.index_mut.ensures.value)

pub dealt-requires-clause-view : goal.dealt-requires-clause-view
dealt-requires-clause-view g c =
    let e = ap (λ (w : Worker g.row.B.Denot Global (SeatView g.row.B.Denot) PoolRule). worker_view w) c.index_mut.ensures.value
    ∙ view_at (λ (w : Worker g.row.B.Denot Global (SeatView g.row.B.Denot) PoolRule). worker_view w) c.loop-at.workers.items c.len-count.result (c.args.number - 1) c.loop-at.at c.len-count.result c.loop-at.at c.index_mut.result.now c.loop-at.invariant.2 c.loop-at.invariant.0 c.loop-at-test.true in
    e ∙ ap (λ m. view_of {B = g.row.B.Denot} m (keeps (c.args.number - 1) c.loop-at.at (c.loop-at.at + 1)) [] []) (sym (ap (λ (h : SeatView g.row.B.Denot). h.seats) e))
