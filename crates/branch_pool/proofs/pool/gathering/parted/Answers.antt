use Rattle.std.proofs.Common.{◌≡◌, ◌<◌, ◌-◌, ◌+◌, ◌∷◌, ◌++◌, [], length, map, List, append-nil, IsPermutation, reverse, arith, ap, ◌∙◌, sym, subst, get_or, length-append, Vec, Global, rules}
use Rattle.std.specs.List.{flat_map}
use Rattle.std.proofs.lemmas.List.{length-map}
use Rattle.crossbeam_deque.specs.Handles.{Pass, worker_deque}
use Rattle.crossbeam_deque.specs.declared.handles.Worker.{Worker}
use Rattle.branch_pool.specs.declared.rule.SeatView.{SeatView}
use Rattle.branch_pool.specs.declared.rule.PoolRule.{PoolRule}
use Rattle.branch_pool.specs.Parts.{IsOwner, Numbered, IsUsedRow, row, own_offered, own_taken, own_parts, pass_taken}
use Rattle.branch_pool.specs.Seats.{SeatData, IsSeatOf, all_taken, taken_by}
use Rattle.branch_pool.proofs.Absorbed.{flat_popped}
use Rattle.branch_pool.proofs.Closed.{taken_apart, parted_step, turned_workers}
use Rattle.branch_pool.proofs.Dealt.{all_more}
use Rattle.branch_pool.proofs.Fresh.{all_pop, numbered_pop}
use Rattle.branch_pool.proofs.Joined.{turned_push, moved_on, deque_moved}
use Rattle.branch_pool.proofs.pool.gathering.parted.Goals as goal

pub loop-seat-preserved : goal.loop-seat-preserved
loop-seat-preserved g c =
    let i = c.loop-seat.invariant in
    let j = c.seat.invariant in
    let s = c.in-Some.seat in
    let w = c.seat.inside.own in
    let ps = c.seat.inside.passes.items in
    let xs = c.pop.new.self.items in
    let ys = c.loop-seat.seats.items in
    let items = c.in-Some.ensures.items in
    let ds = c.args.pool.now.deques in
    let us = c.loop-seat.workers.items in
    let rs = c.loop-seat.rows.items in
    let we = c.push_reserved.ensures.items in
    let re = c.push_reserved-in-Some.ensures.items in
    let at : 1 + length xs ≡ length xs + 1 = omega arith in
    let len : length ys ≡ length xs + 1 = ap length items ∙ length-append xs (s ∷ []) in
    let all = all_pop (λ (s : SeatData g.row.B.Denot). IsSeatOf c.args.pool.now s) xs ys s items i.0 in
    let num = numbered_pop (λ k (s : SeatData g.row.B.Denot). s.number ≡ k) 1 (length xs + 1) xs ys s items at i.1 in
    let own : map (λ (p : Pass g.row.B.Denot (SeatView g.row.B.Denot) Global). (p.rows, p.heap)) ps ≡ ds = ap (λ (s : SeatData g.row.B.Denot). s.deques) c.seat.view_is ∙ all.1 in
    let nd : c.seat.inside.number ≡ length xs + 1 = ap (λ (s : SeatData g.row.B.Denot). s.number) c.seat.view_is ∙ num.1 in
    let pn : length ps ≡ length ds = sym (length-map ps (λ (p : Pass g.row.B.Denot (SeatView g.row.B.Denot) Global). (p.rows, p.heap))) ∙ ap length own in
    let place : length xs ≡ c.seat.inside.number - 1 = omega (arith, nd) in
    let tie : get_or ds (length xs) (worker_deque w) ≡ worker_deque w =
    ap (λ l. get_or l (length xs) (worker_deque w)) (sym own) ∙ ap (λ k. get_or (map (λ (p : Pass g.row.B.Denot (SeatView g.row.B.Denot) Global). (p.rows, p.heap)) ps) k (worker_deque w)) place ∙ j.9 in
    let lt : length xs < length ds = omega (arith, j.1, nd, pn) in
    let row_taken : Vec (Pass g.row.B.Denot (SeatView g.row.B.Denot) Global) Global → List g.row.B.Denot = λ r. flat_map pass_taken r.items in
    let parts : own_parts w ≡ 65 - length ds = j.4 ∙ ap (λ k. 65 - k) pn in (
      all.0,
      num.0,
      deque_moved (λ (w : Worker g.row.B.Denot Global (SeatView g.row.B.Denot) PoolRule). worker_deque w) ds us c.push_reserved.new.self.items w (length ys) (length xs) we len lt tie i.2,
      all_more (λ (w : Worker g.row.B.Denot Global (SeatView g.row.B.Denot) PoolRule). IsOwner w × (own_parts w ≡ 65 - length ds)) us c.push_reserved.new.self.items w we i.3 (j.3, parts),
      turned_push (λ k (r : Vec (Pass g.row.B.Denot (SeatView g.row.B.Denot) Global) Global). IsUsedRow ds k r.items) (length xs + 1) (length ys + 1) rs c.push_reserved-in-Some.new.self.items c.seat.inside.passes re (ap (λ k. k + 1) len)
          record { own = own; parts = j.7 ∙ ap (λ k. row k (length ps)) nd ∙ ap (row (length xs + 1)) pn; quiet = j.6 } i.4,
      moved_on (λ (s : SeatData g.row.B.Denot). s.offered) (own_offered {B = g.row.B.Denot}) _ xs ys s us c.push_reserved.new.self.items w items we (sym (ap (λ (s : SeatData g.row.B.Denot). s.offered) c.seat.view_is)) i.5,
      parted_step _ (taken_by xs) (taken_by ys) (flat_map own_taken us) (flat_map own_taken c.push_reserved.new.self.items) (flat_map row_taken rs) (flat_map row_taken c.push_reserved-in-Some.new.self.items) (all_taken s) (own_taken w) (flat_map pass_taken ps)
          (flat_popped (λ (s : SeatData g.row.B.Denot). all_taken s) xs ys s items) (flat_popped (own_taken {B = g.row.B.Denot}) us c.push_reserved.new.self.items w we) (flat_popped row_taken rs c.push_reserved-in-Some.new.self.items c.seat.inside.passes re)
          (subst (λ (s : SeatData g.row.B.Denot). IsPermutation (all_taken s) (own_taken w ++ flat_map pass_taken ps)) c.seat.view_is (taken_apart (pass_taken {B = g.row.B.Denot}) ps c.seat.inside.number (own_taken w) (omega (arith, j.0, j.1)) j.10)) i.6,
      omega (arith, c.push_reserved.ensures.len, len, i.7),
      omega (arith, c.push_reserved-in-Some.ensures.len, len, i.8),
      omega (arith, c.push_reserved.ensures.capacity, i.9),
      omega (arith, c.push_reserved-in-Some.ensures.capacity, i.10),
    )

pub returns-clause-rows : goal.returns-clause-rows
returns-clause-rows g c =
    let none : c.loop-seat.seats.items ≡ [] = search rules in
    subst (λ k. Numbered (λ k (r : Vec (Pass g.row.B.Denot (SeatView g.row.B.Denot) Global) Global). IsUsedRow c.args.pool.now.deques k r.items) k (reverse c.loop-seat.rows.items)) (omega (arith, ap length none)) c.loop-seat.invariant.4

pub returns-clause-taken : goal.returns-clause-taken
returns-clause-taken g c =
    let none : c.loop-seat.seats.items ≡ [] = search rules in
    let row_taken : Vec (Pass g.row.B.Denot (SeatView g.row.B.Denot) Global) Global → List g.row.B.Denot = λ r. flat_map pass_taken r.items in
    subst (λ (l : List (Worker g.row.B.Denot Global (SeatView g.row.B.Denot) PoolRule)). IsPermutation (taken_by c.args.seats.items) (flat_map own_taken l ++ flat_map row_taken c.loop-seat.rows.items)) (sym c.reverse.ensures.items)
    (turned_workers (own_taken {B = g.row.B.Denot}) c.loop-seat.workers.items (taken_by c.args.seats.items) (flat_map row_taken c.loop-seat.rows.items)
    (subst (λ (l : List (SeatData g.row.B.Denot)). IsPermutation (taken_by c.args.seats.items) (taken_by l ++ (flat_map own_taken c.loop-seat.workers.items ++ flat_map row_taken c.loop-seat.rows.items))) none c.loop-seat.invariant.6))
