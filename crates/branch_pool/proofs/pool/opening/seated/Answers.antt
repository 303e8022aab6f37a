use Rattle.std.proofs.Common.{◌≡◌, ◌<◌, ◌-◌, [], length, ◌+◌, map, vec_len, arith, ap, ◌∙◌, sym, refl, get_or, Vec, Global}
use Rattle.std.proofs.lemmas.List.{length-map}
use Rattle.crossbeam_deque.specs.Handles.{Pass, worker_deque, worker_view, worker_flavor, worker_port}
use Rattle.crossbeam_deque.specs.declared.handles.Worker.{Worker}
use Rattle.branch_pool.specs.declared.rule.SeatView.{SeatView}
use Rattle.branch_pool.specs.declared.rule.PoolRule.{PoolRule}
use Rattle.branch_pool.specs.Rule.{view_of}
use Rattle.branch_pool.specs.Parts.{IsOwner, IsRow}
use Rattle.branch_pool.specs.Seats.{fresh_seat}
use Rattle.branch_pool.proofs.Fresh.{numbered_places, numbered_pop, all_pop, fresh_invariant, fresh_view, fresh_list}
use Rattle.branch_pool.proofs.pool.opening.seated.Goals as goal

pub loop-own-init : goal.loop-own-init
loop-own-init g c =
    let ws = c.args.workers.items in
    let none : length ws - vec_len c.args.workers ≡ 0 = omega (arith, c.args.workers.ok.0) in (
      numbered_places (λ (w : Worker g.row.B.Denot Global (SeatView g.row.B.Denot) PoolRule). worker_deque w) ws,
      c.requires.workers,
      c.requires.rows,
      omega (arith, c.requires.size.1, c.args.workers.ok.0, c.args.rows.ok.0),
      rw (c.requires.room.0, none) refl,
      omega (arith, ap length c.requires.room.0, c.args.list.ok.0, c.args.workers.ok.0),
      c.requires.room.1,
    )

pub invariant_of-push_reserved : goal.invariant_of-push_reserved
invariant_of-push_reserved g c =
    let ds = map (λ (w : Worker g.row.B.Denot Global (SeatView g.row.B.Denot) PoolRule). worker_deque w) c.args.workers.items in
    let n : length ds ≡ length c.args.workers.items = length-map c.args.workers.items (λ (w : Worker g.row.B.Denot Global (SeatView g.row.B.Denot) PoolRule). worker_deque w) in
    let i = c.loop-own.invariant in
    let w = c.in-Some.own in
    let ps = c.in-Some-pop.passes.items in
    let at : 1 + length c.pop.new.self.items ≡ c.len.result + 1 = omega (arith, c.len.ensures, c.pop.new.self.ok.0) in
    let at' : 1 + length c.pop-in-Some.new.self.items ≡ c.len.result + 1 = omega (arith, c.len.ensures, c.in-Some.ensures.len, c.in-Some-pop.ensures.len, i.3, c.pop-in-Some.new.self.ok.0) in
    let tie = numbered_pop (λ k (w : Worker g.row.B.Denot Global (SeatView g.row.B.Denot) PoolRule). get_or ds (k - 1) (worker_deque w) ≡ worker_deque w) 1 (c.len.result + 1) c.pop.new.self.items c.loop-own.workers.items w c.in-Some.ensures.items at i.0 in
    let row = numbered_pop (λ k (r : Vec (Pass g.row.B.Denot (SeatView g.row.B.Denot) Global) Global). IsRow ds k r.items) 1 (c.len.result + 1) c.pop-in-Some.new.self.items c.loop-own.rows.items c.in-Some-pop.passes c.in-Some-pop.ensures.items at' i.2 in
    let own = all_pop (λ (w : Worker g.row.B.Denot Global (SeatView g.row.B.Denot) PoolRule). IsOwner w × (worker_view w ≡ view_of (length c.args.workers.items) (65 - length c.args.workers.items) [] [])) c.pop.new.self.items c.loop-own.workers.items w c.in-Some.ensures.items i.1 in
    let view : worker_view w ≡ view_of (length ds) (65 - length ds) [] [] = own.1.1 ∙ ap (λ k. view_of k (65 - k) [] []) (sym n) in
    let lt : c.len.result < length ds = omega (arith, n, c.len.ensures, c.in-Some.ensures.len, i.5) in
    fresh_invariant ds (c.len.result + 1) (worker_flavor w) (worker_port w) (worker_deque w) (worker_view w) ps (omega arith) (omega (arith, lt)) (omega (arith, n, c.requires.size.0)) row.1 own.1.0 view tie.1

pub loop-own-preserved : goal.loop-own-preserved
loop-own-preserved g c =
    let ds = map (λ (w : Worker g.row.B.Denot Global (SeatView g.row.B.Denot) PoolRule). worker_deque w) c.args.workers.items in
    let n : length ds ≡ length c.args.workers.items = length-map c.args.workers.items (λ (w : Worker g.row.B.Denot Global (SeatView g.row.B.Denot) PoolRule). worker_deque w) in
    let i = c.loop-own.invariant in
    let w = c.in-Some.own in
    let ps = c.in-Some-pop.passes.items in
    let at : 1 + length c.pop.new.self.items ≡ c.len.result + 1 = omega (arith, c.len.ensures, c.pop.new.self.ok.0) in
    let at' : 1 + length c.pop-in-Some.new.self.items ≡ c.len.result + 1 = omega (arith, c.len.ensures, c.in-Some.ensures.len, c.in-Some-pop.ensures.len, i.3, c.pop-in-Some.new.self.ok.0) in
    let tie = numbered_pop (λ k (w : Worker g.row.B.Denot Global (SeatView g.row.B.Denot) PoolRule). get_or ds (k - 1) (worker_deque w) ≡ worker_deque w) 1 (c.len.result + 1) c.pop.new.self.items c.loop-own.workers.items w c.in-Some.ensures.items at i.0 in
    let row = numbered_pop (λ k (r : Vec (Pass g.row.B.Denot (SeatView g.row.B.Denot) Global) Global). IsRow ds k r.items) 1 (c.len.result + 1) c.pop-in-Some.new.self.items c.loop-own.rows.items c.in-Some-pop.passes c.in-Some-pop.ensures.items at' i.2 in
    let own = all_pop (λ (w : Worker g.row.B.Denot Global (SeatView g.row.B.Denot) PoolRule). IsOwner w × (worker_view w ≡ view_of (length c.args.workers.items) (65 - length c.args.workers.items) [] [])) c.pop.new.self.items c.loop-own.workers.items w c.in-Some.ensures.items i.1 in
    let view : worker_view w ≡ view_of (length ds) (65 - length ds) [] [] = own.1.1 ∙ ap (λ k. view_of k (65 - k) [] []) (sym n) in
    let lt : c.len.result < length ds = omega (arith, n, c.len.ensures, c.in-Some.ensures.len, i.5) in (
      tie.0,
      own.0,
      row.0,
      omega (arith, c.in-Some.ensures.len, c.in-Some-pop.ensures.len, i.3),
      fresh_list (λ k. fresh_seat ds k) c.loop-own.list.items c.push_reserved.new.self.items _ (vec_len c.pop.new.self) c.len.result (vec_len c.loop-own.workers) (length c.args.workers.items) (omega (arith, lt, n, c.len.ensures)) c.len.ensures (omega (arith, c.len.ensures, c.in-Some.ensures.len)) c.push_reserved.ensures.items
          (fresh_view ds (c.len.result + 1) (length ds) (65 - length ds) (worker_view w) ps row.1 view) i.4,
      omega (arith, c.push_reserved.ensures.len, c.in-Some.ensures.len, i.5),
      omega (arith, c.push_reserved.ensures.capacity, i.6),
    )
